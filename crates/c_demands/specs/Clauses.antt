-- The contracts of the thirteen functions of `deorasaeng`, which `deorasaeng_c` exports with the same clauses, each by the clauses of the code: nothing is required, and what is ensured is what Interface.antt and PlanCalls.antt of
-- `deorasaeng` say. A `requires` on one of them, or another clause, is refused: each is proved by computing, as `clauses` and `link_layout` in proofs/Clauses.antt. And where C finds the fields of a link. Assumes nothing.
use Rattle.std.specs.Prelude.{◌≡◌, List, ℕ}
use Rattle.std.proofs.Math.Option.{some}
use contract.Lifetimes.{Lfts}
use contract.Notation as N
use contract.Monad.{Fun}
use base.Logic.{SProp}
use mir.Syntax.{ty_int, w32}
use mir.Val.{Val, vint, vstruct, vcons, vnil}
use prog.Memory.{Memory, field_of, size}
use prog.Routine.{Routine}
use types.Logic.{Logic}
use seplogic.Ra.Ura.{Ura}
use Rattle.std.specs.Borrow.{Bor, MutBor}
use Rattle.queue.specs.declared.Queue.{Queue}
use Rattle.unit.specs.Count.{ports_of}
use Rattle.unit.specs.PowerOn.{PoweringOn}
use Rattle.bridge.specs.Calls.{Quieting}
use Rattle.plan_links.specs.declared.Link.{Link}
use Rattle.plan_links.proofs.Link.TheLaws as link
use Rattle.deorasaeng.specs.Interface.{FrameCall, TakeCall, MessageCall, StartCall, UnitCall, CountsCall, QueueCall}
use Rattle.deorasaeng.specs.PlanCalls.{PlanCall, LinksCall}
use Rattle.deorasaeng.specs.contracts.deorasaeng_version as version
use Rattle.deorasaeng.specs.contracts.deorasaeng_power_on as power_on_four
use Rattle.deorasaeng.specs.contracts.deorasaeng_power_on_ports as power_on
use Rattle.deorasaeng.specs.contracts.deorasaeng_frame as frame
use Rattle.deorasaeng.specs.contracts.deorasaeng_take as take_out
use Rattle.deorasaeng.specs.contracts.deorasaeng_message as message
use Rattle.deorasaeng.specs.contracts.deorasaeng_start as start
use Rattle.deorasaeng.specs.contracts.deorasaeng_quiet as quiet
use Rattle.deorasaeng.specs.contracts.deorasaeng_unit as unit
use Rattle.deorasaeng.specs.contracts.deorasaeng_counts as counts
use Rattle.deorasaeng.specs.contracts.deorasaeng_take_queue as queue
use Rattle.deorasaeng.specs.contracts.deorasaeng_plan as plan
use Rattle.deorasaeng.specs.contracts.deorasaeng_plan_links as links

module _ {M : Type 1} (𝓤 : Ura M) where
  -- nothing is required, and a fact is ensured
  abbrev pub nothing : SProp 𝓤
  nothing = (N.connectives 𝓤).⊤ₛ

  abbrev pub fact : Type 0 → SProp 𝓤
  fact p = (N.connectives 𝓤).⌜◌⌝ p

-- the clauses of the functions that are exported
pub record Clauses {M : Type 1} {𝓤 : Ura M} (𝓛 : Logic 𝓤) (mem : Memory → SProp 𝓤) (run : Routine → Fun 𝓤) : Type 2 where
  pub version_clause : (κs : Lfts 0) → (version.clauses 𝓛 mem run κs tt).requires tt ≡ nothing 𝓤
  pub power_on_clause : (κs : Lfts 1) (w w' : MutBor (List ℕ)) (name preferred count r : ℕ)
      → ((power_on.clauses 𝓛 mem run κs (w, (name, (preferred, (count, tt))))).requires tt ≡ nothing 𝓤)
      × ((power_on.clauses 𝓛 mem run κs (w, (name, (preferred, (count, tt))))).ensures tt r (w', (name, (preferred, (count, tt)))) ≡ fact 𝓤 (PoweringOn count w.now w'.now name preferred r))
  pub power_on_four_clause : (κs : Lfts 1) (w w' : MutBor (List ℕ)) (name preferred count r : ℕ)
      → ((power_on_four.clauses 𝓛 mem run κs (w, (name, (preferred, tt)))).requires tt ≡ nothing 𝓤)
      × ((power_on_four.clauses 𝓛 mem run κs (w, (name, (preferred, tt)))).ensures tt r (w', (name, (preferred, tt))) ≡ fact 𝓤 (PoweringOn 4 w.now w'.now name preferred r))
  pub quiet_clause : (κs : Lfts 1) (w w' : MutBor (List ℕ)) (name preferred count r : ℕ)
      → ((quiet.clauses 𝓛 mem run κs (w, tt)).requires tt ≡ nothing 𝓤)
      × ((quiet.clauses 𝓛 mem run κs (w, tt)).ensures tt r (w', tt) ≡ fact 𝓤 (Quieting (ports_of w.now) w.now w'.now r))
  pub start_clause : (κs : Lfts 2) (w w' a a' : MutBor (List ℕ)) (r : ℕ)
      → ((start.clauses 𝓛 mem run κs (w, (a, tt))).requires tt ≡ nothing 𝓤)
      × ((start.clauses 𝓛 mem run κs (w, (a, tt))).ensures tt r (w', (a', tt)) ≡ fact 𝓤 (StartCall (ports_of w.now) w.now w'.now a.now a'.now r))
  pub unit_clause : (κs : Lfts 2) (w w' : Bor (List ℕ)) (a a' : MutBor (List ℕ)) (port r : ℕ)
      → ((unit.clauses 𝓛 mem run κs (w, (a, tt))).requires tt ≡ nothing 𝓤)
      × ((unit.clauses 𝓛 mem run κs (w, (a, tt))).ensures tt r (w', (a', tt)) ≡ fact 𝓤 (UnitCall (ports_of w.now) w.now a.now a'.now r))
  pub counts_clause : (κs : Lfts 2) (w w' : Bor (List ℕ)) (a a' : MutBor (List ℕ)) (port r : ℕ)
      → ((counts.clauses 𝓛 mem run κs (w, (port, (a, tt)))).requires tt ≡ nothing 𝓤)
      × ((counts.clauses 𝓛 mem run κs (w, (port, (a, tt)))).ensures tt r (w', (port, (a', tt))) ≡ fact 𝓤 (CountsCall (ports_of w.now) w.now port a.now a'.now r))
  pub frame_clause : (κs : Lfts 3) (w w' a a' : MutBor (List ℕ)) (port id r : ℕ) (b b' : Bor (List ℕ))
      → ((frame.clauses 𝓛 mem run κs (w, (port, (id, (b, (a, tt)))))).requires tt ≡ nothing 𝓤)
      × ((frame.clauses 𝓛 mem run κs (w, (port, (id, (b, (a, tt)))))).ensures tt r (w', (port, (id, (b', (a', tt)))))
      ≡ fact 𝓤 (FrameCall (ports_of w.now) w.now w'.now port id b.now a.now a'.now r))
  pub take_clause : (κs : Lfts 3) (w w' a a' : MutBor (List ℕ)) (port id r : ℕ) (b b' : MutBor (List ℕ))
      → ((take_out.clauses 𝓛 mem run κs (w, (port, (a, (b, tt))))).requires tt ≡ nothing 𝓤)
      × ((take_out.clauses 𝓛 mem run κs (w, (port, (a, (b, tt))))).ensures tt r (w', (port, (a', (b', tt))))
      ≡ fact 𝓤 (TakeCall (ports_of w.now) w.now w'.now port a.now a'.now b.now b'.now r))
  pub message_clause : (κs : Lfts 4) (w w' : MutBor (List ℕ)) (p p' : Bor (List ℕ)) (b b' a a' : MutBor (List ℕ)) (port requester r : ℕ)
      → ((message.clauses 𝓛 mem run κs (w, (port, (requester, (p, (b, (a, tt))))))).requires tt ≡ nothing 𝓤)
      × ((message.clauses 𝓛 mem run κs (w, (port, (requester, (p, (b, (a, tt))))))).ensures tt r (w', (port, (requester, (p', (b', (a', tt))))))
      ≡ fact 𝓤 (MessageCall (ports_of w.now) w.now w'.now port requester p.now b.now b'.now a.now a'.now r))
  pub queue_clause : (κs : Lfts 3) (q q' : MutBor Queue) (a a' b b' : MutBor (List ℕ)) (r : ℕ)
      → ((queue.clauses 𝓛 mem run κs (q, (a, (b, tt)))).requires tt ≡ nothing 𝓤)
      × ((queue.clauses 𝓛 mem run κs (q, (a, (b, tt)))).ensures tt r (q', (a', (b', tt)))
      ≡ fact 𝓤 (QueueCall q.now.words q'.now.words a.now a'.now b.now b'.now r))
  pub plan_clause : (κs : Lfts 3) (segments units first pgn r : ℕ) (ls ls' : Bor (List ℕ)) (a a' : MutBor (List ℕ)) (ps ps' : Bor (List ℕ))
      → ((plan.clauses 𝓛 mem run κs (ps, (ls, (segments, (units, (first, (pgn, (a, tt)))))))).requires tt ≡ nothing 𝓤)
      × ((plan.clauses 𝓛 mem run κs (ps, (ls, (segments, (units, (first, (pgn, (a, tt)))))))).ensures tt r (ps', (ls', (segments, (units, (first, (pgn, (a', tt)))))))
      ≡ fact 𝓤 (PlanCall ps.now ls.now segments units first pgn a.now a'.now r))
  pub links_clause : (κs : Lfts 3) (segments units first pgn r : ℕ) (ls ls' : Bor (List ℕ)) (a a' : MutBor (List ℕ)) (ks ks' : Bor (List Link))
      → ((links.clauses 𝓛 mem run κs (ks, (ls, (segments, (units, (first, (pgn, (a, tt)))))))).requires tt ≡ nothing 𝓤)
      × ((links.clauses 𝓛 mem run κs (ks, (ls, (segments, (units, (first, (pgn, (a, tt)))))))).ensures tt r (ks', (ls', (segments, (units, (first, (pgn, (a', tt)))))))
      ≡ fact 𝓤 (LinksCall ks.now ls.now segments units first pgn a.now a'.now r))

abbrev pub EveryClause : Type 2
EveryClause = (M : Type 1) (𝓤 : Ura M) (𝓛 : Logic 𝓤) (mem : Memory → SProp 𝓤) (run : Routine → Fun 𝓤) → Clauses 𝓛 mem run

-- "struct deorasaeng_link { uint32_t unit, port, segment; }": 12 bytes, with 32 bits each at 0, 4 and 8, in this order
pub record LinkLayout : Type 0 where
  pub link_bytes : size link.mir ≡ 12
  pub link_offsets : (field_of link.mir 0 ≡ some (ty_int w32, 0)) × (field_of link.mir 1 ≡ some (ty_int w32, 4)) × (field_of link.mir 2 ≡ some (ty_int w32, 8))
  pub link_fields : (l : Link) → link.lowered l ≡ vstruct (vcons (vint w32 l.unit) (vcons (vint w32 l.port) (vcons (vint w32 l.segment) vnil)))
