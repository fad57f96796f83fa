-- Each by computing. Assumes nothing.
use Rattle.std.specs.Prelude.{None}
use mathlib.Core.Path.{◌≡◌, refl}
use mathlib.Core.Bool.{Bool, true, false, cond, ◌&&◌}
use mathlib.Core.List.{List, [], ◌∷◌}
use Prim.Native.Nat.{ℕ, suc, ◌-◌, ◌<◌}
use native.Mathlib.Nat.{add-zero}
use native.Mathlib.Omega.{arith}
use borrow.Author.Tests.{ne_eqb}
use lib.Dec.{eqb}
use lib.ListN.{length, get_or, take}
use lib.Seq.{take_all}
use Rattle.entries.specs.Entries.{listed, every, entries_of}
use Rattle.storage.specs.Bytes.{packed}
use Rattle.checks.specs.Ports.{is_port}
use Rattle.identifier.specs.Identifier.{pgn_of, is_pgn, sent_without_address, wrong_source}
use Rattle.name_entries.specs.NameEntries.{is_same, is_there}
use Rattle.filter_commands.specs.Changes.{passes_names}
use Rattle.network_message.specs.Decoding.{is_known, is_filling, entries_end, name_of, mask_of, has_good_body, has_wrong_mode}
use Rattle.replies.specs.Replies.{control_of, acknowledgment, filled, list_reply, address_reply}
use Rattle.unit.specs.declared.Claim.TheVariants.{Claiming, Lost}
use Rattle.unit.specs.Count.{is_count, count_of, ports_of, pair_count}
use Rattle.unit.specs.Model.{Rest}
use Rattle.claims.specs.Claims.{Acted, is_claim, is_request, held_under, started}
use Rattle.demand_1.specs.Demand1.{entries}
use Rattle.demand_1.specs.Literals.{three_bytes, eight_bytes, one_or_two, Literals}

became : (b : Bool) (x y : Acted) → (cond b x y).rest.own.claim ≡ cond b x.rest.own.claim y.rest.own.claim
became true x y = refl
became false x y = refl

start_becomes : (rest : Rest) → (started rest).rest.own.claim ≡ cond (held_under rest.own.name (get_or rest.table rest.own.preferred None)) Lost Claiming
unfolding started
start_becomes rest = became (held_under rest.own.name (get_or rest.table rest.own.preferred None)) _ _

-- ---- entries
three : (a b c : ℕ) → packed (a ∷ b ∷ c ∷ []) ≡ three_bytes a b c
unfolding packed
three a b c = rw (add-zero c)

eight : (a b c d e f g h : ℕ) → packed (a ∷ b ∷ c ∷ d ∷ e ∷ f ∷ g ∷ h ∷ []) ≡ eight_bytes a b c d e f g h
unfolding packed
eight a b c d e f g h = rw (add-zero h)

six : (function pair a b c d e f : ℕ) → eqb function 6 ≡ false → eqb function 7 ≡ false → entries (function ∷ pair ∷ a ∷ b ∷ c ∷ d ∷ e ∷ f ∷ []) ≡ one_or_two a b c d e f
unfolding entries_of entries_end is_filling every
six function pair a b c d e f n s = rw (n, s) (go (eqb d 0xFF) (eqb e 0xFF) (eqb f 0xFF))
  where
    go : (x y z : Bool) → entries_of (take (cond (x && (y && (z && true))) 5 8 - 2) (a ∷ b ∷ c ∷ d ∷ e ∷ f ∷ [])) ≡ three_bytes a b c ∷ cond (x && (y && z)) [] (three_bytes d e f ∷ [])
    go true true true = rw (three a b c)
    go true true false = rw (three a b c, three d e f)
    go true false z = rw (three a b c, three d e f)
    go false y z = rw (three a b c, three d e f)

long_entries : (function pair : ℕ) (bytes : List ℕ) → eqb function 6 ≡ false → eqb function 7 ≡ false → 6 < length bytes → entries (function ∷ pair ∷ bytes) ≡ entries_of bytes
unfolding entries_end
long_entries function pair bytes n s l =
    let all : take (suc (suc (length bytes)) - 2) bytes ≡ bytes = take_all (suc (suc (length bytes)) - 2) bytes (omega arith) in
    rw (n, s, ne_eqb (suc (suc (length bytes))) 8 (λ e. omega arith), all)

long_created : (pair mode : ℕ) (bytes : List ℕ) → 5 < length bytes → entries (6 ∷ pair ∷ mode ∷ bytes) ≡ entries_of bytes
unfolding entries_end
long_created pair mode bytes l =
    let all : take (suc (suc (suc (length bytes))) - 3) bytes ≡ bytes = take_all (suc (suc (suc (length bytes))) - 3) bytes (omega arith) in
    rw (ne_eqb (suc (suc (suc (length bytes)))) 8 (λ e. omega arith), all)

-- ---- function 7
name_length : (payload : List ℕ) → has_good_body 7 payload ≡ eqb (length payload) 23
unfolding has_good_body listed
name_length payload = refl

pub literals : Literals
unfolding is_port is_count count_of ports_of pair_count is_known is_filling entries_end entries_of every name_of mask_of passes_names is_there is_same has_wrong_mode control_of acknowledgment filled list_reply address_reply is_claim is_request packed pgn_of is_pgn sent_without_address wrong_source
literals = record {
  port = λ ports p. refl;
  count = λ n. refl;
  ports = λ words. refl;
  at_power_on = λ n. refl;
  list = refl;
  queue = refl;
  record_words = λ lent. refl;
  lengths = refl;
  priority = λ id. refl;
  extended = λ id. refl;
  page = λ id. refl;
  pf = λ id. refl;
  ps = λ id. refl;
  sa = λ id. refl;
  destination = λ id. refl;
  pgn = λ id. refl;
  is_pgn_lem = λ n. refl;
  wide = λ id. refl;
  source = λ id. refl;
  long = refl;
  known = λ function. refl;
  mode = λ function payload. refl;
  function = λ payload. refl;
  pair = λ payload. refl;
  from = λ pair. refl;
  to = λ pair. refl;
  added = λ pair a b c d e f. six 2 pair a b c d e f refl refl;
  deleted = λ pair a b c d e f. six 3 pair a b c d e f refl refl;
  created = λ pair mode a b c. rw (three a b c);
  longer = λ function pair bytes n s l. long_entries function pair bytes n s l;
  longer_create = λ pair mode bytes l. long_created pair mode bytes l;
  next_entry = λ a b c bytes. rw (three a b c);
  named = λ pair a b c n0 n1 n2 n3 n4 n5 n6 n7 m0 m1 m2 m3 m4 m5 m6 m7 rate. rw (three a b c, eight n0 n1 n2 n3 n4 n5 n6 n7, eight m0 m1 m2 m3 m4 m5 m6 m7);
  named_long = name_length;
  ninth = λ f e. refl;
  there = λ e d ds. refl;
  not_there = λ e. refl;
  told = λ n. refl;
  control = λ n. refl;
  acknowledged = λ control function requester. refl;
  listed_reply = λ pair f. refl;
  addressed_reply = λ port except table. refl;
  addresses = refl;
  claim = λ f. refl;
  request = λ f. refl;
  claims = λ own. refl;
  cannot = λ own. refl;
  starts = start_becomes;
  states = refl;
  events = λ old. refl;
}
