-- The ports of a region: the words of one are lent and come back; all of them, one after the other. Assumes nothing.
use mathlib.Core.Path.{◌≡◌, refl, sym, ap, ◌∙◌}
use mathlib.Core.Logic.{inr}
use mathlib.Core.List.{List, [], ◌∷◌, ◌++◌, append-nil}
use Prim.Native.Nat.{ℕ, suc, ◌+◌, ◌-◌, ◌*◌, ◌≤◌, ◌<◌, max}
use native.Mathlib.Numerals.{add-one}
use native.Mathlib.Nat.{zero-add}
use native.Mathlib.Omega.{arith}
use lib.ListN.{length, get_or, set, take, drop, replicate, length-replicate, get_or-replicate, drop_of_length-le}
use lib.Seq.{paste, paste-zero, paste-suc, take_all}
use Rattle.storage.specs.Blocks.{block_at, blocks_of}
use Rattle.storage.proofs.Parts.{store_back}
use Rattle.storage.proofs.Blocks.{blocks_at, blocks_set, blocks_apart, length_blocks}
use Rattle.session.specs.Session.{Session}
use Rattle.sessions.specs.Sessions.{talk_of}
use Rattle.sessions.specs.Region.{region_length, time_of, talks_of, Telling, Dropping}
use Rattle.sessions.proofs.Talk.{head_kept}

pub talks_long : (ports : ℕ) (words : List ℕ) → length (talks_of ports words) ≡ ports
unfolding talks_of
talks_long ports words = length_blocks talk_of 1053 1 ports words

-- the sessions of port p are those of its words
pub port_is : (ports p : ℕ) (words : List ℕ) → p < ports → talk_of (take (1 + 1053 * p + 1053 - (1 + 1053 * p)) (drop (1 + 1053 * p) words)) ≡ get_or (talks_of ports words) p []
unfolding talks_of block_at
port_is ports p words h =
    let e : 1 + 1053 * p + 1053 - (1 + 1053 * p) ≡ 1053 = omega arith in
    rw e (sym (blocks_at talk_of 1053 1 ports words p [] h))

-- the words of port p were lent, and came back as ys
module _ (ports p : ℕ) (words ys : List ℕ) (long : length words ≡ region_length ports) (inside : p < ports) (size : length ys ≡ 1 + 1053 * p + 1053 - (1 + 1053 * p)) where
  abbrev after : List ℕ
  after = take (1 + 1053 * p) words ++ (ys ++ drop (1 + 1053 * p + 1053 - (1 + 1053 * p)) (drop (1 + 1053 * p) words))

  pub port_back : talks_of ports after ≡ set (talks_of ports words) p (talk_of ys)
  unfolding talks_of
  port_back =
      let e : 1 + 1053 * p + 1053 - (1 + 1053 * p) ≡ 1053 = omega arith in
      rw e (blocks_set 1 1053 words ys p (size ∙ e) (omega arith) talk_of ports inside)

  pub time_back : time_of after ≡ time_of words
  time_back = head_kept words (ys ++ drop (1 + 1053 * p + 1053 - (1 + 1053 * p)) (drop (1 + 1053 * p) words)) (1053 * p) (omega arith)

-- ---- the time is told
pub tells_nothing : (ports told : ℕ) (words : List ℕ) → told ≤ time_of words → Telling words words ports told
tells_nothing ports told words h = record { time = omega arith; talks = refl }

pub tells : (ports told : ℕ) (words : List ℕ) → 0 < length words → Telling words (set words 0 (max (time_of words) told)) ports told
unfolding talks_of
tells ports told [] h = absurd (omega arith)
tells ports told (w ∷ ws) h = record {
  time = refl;
  talks =
      ap {A = List ℕ} (λ x. blocks_of 1 1053 ports talk_of x) (store_back 0 (w ∷ ws) (max w told) h)
      ∙ blocks_apart 0 1 (w ∷ ws) (max w told ∷ []) refl (omega arith) talk_of 1053 1 ports (inr (omega arith));
}

-- ---- the first p ports have no session any more
pub record Emptied (ports : ℕ) (start x : List ℕ) (p : ℕ) : Type 0 where
  pub time : time_of x ≡ time_of start
  pub talks : talks_of ports x ≡ paste (talks_of ports start) 0 (replicate ports []) p

pub emptied_none : {ports : ℕ} {start : List ℕ} → Emptied ports start start 0
emptied_none {ports} {start} = record { time = refl; talks = paste-zero (talks_of ports start) 0 (replicate ports []) }

pub emptied_one : {ports : ℕ} {start x : List ℕ} (ys : List ℕ) {p : ℕ} → length x ≡ region_length ports → p < ports → length ys ≡ 1 + 1053 * p + 1053 - (1 + 1053 * p) → talk_of ys ≡ [] → Emptied ports start x p
    → Emptied ports start (take (1 + 1053 * p) x ++ (ys ++ drop (1 + 1053 * p + 1053 - (1 + 1053 * p)) (drop (1 + 1053 * p) x))) (p + 1)
emptied_one {ports} {start} {x} ys {p} long h size none E = record {
  time = time_back ports p x ys long h size ∙ E.time;
  talks = port_back ports p x ys long h size ∙ rw (E.talks, none, add-one p) one;
}
  where
    one : set (paste (talks_of ports start) 0 (replicate ports []) p) p [] ≡ paste (talks_of ports start) 0 (replicate ports []) (suc p)
    one =
        ap {A = ℕ} (λ k. set (paste (talks_of ports start) 0 (replicate ports []) p) k []) (sym (zero-add p))
        ∙ ap {A = List Session} (λ s. set (paste (talks_of ports start) 0 (replicate ports []) p) (0 + p) s) (sym (get_or-replicate ports p [] [] h))
        ∙ paste-suc (talks_of ports start) 0 (replicate ports []) p [] (omega (arith, talks_long ports start)) (omega (arith, length-replicate {A = List Session} ports []))

pub emptied_all : {ports : ℕ} {start x : List ℕ} {p : ℕ} → ports ≤ p → p ≤ ports → Emptied ports start x p → Dropping start x ports
emptied_all {ports} {start} {x} {p} h g E = record {
  time = E.time;
  talks =
      E.talks
      ∙ rw (take_all {A = List Session} p (replicate ports []) (omega (arith, length-replicate {A = List Session} ports [])), drop_of_length-le (talks_of ports start) {i = 0 + p} (omega (arith, talks_long ports start))) (append-nil (replicate ports []));
}
