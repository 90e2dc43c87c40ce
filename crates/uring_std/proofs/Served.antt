-- Parts of a turn one after another, by side and log, and what they took.
use Rattle.std.specs.Prelude.{◌≡◌, ℕ, ◌+◌, ◌≤◌, ℤ, min, Bool, true, false, if◌then◌else◌, List, [], ◌∷◌, ◌++◌, length, Option, Some, None, IfSome, refl}
use Rattle.std.proofs.Common.{ap, sym, subst, ◌∙◌, append_assoc, append-nil, length-append, arith}
use Rattle.uring_base.specs.declared.events.Taken.{Taken}
use Rattle.uring_base.specs.declared.events.Completion.{Completion}
use Rattle.uring_base.specs.declared.events.LogEvent.{LogEvent}
use Rattle.uring_model.specs.Jobs.{ends_quietly}
use Rattle.uring_model.specs.Moves.{Move, Turned, Took, Posted, Quieted, took, posted, log_of}
use Rattle.uring_model.specs.Partner.{job_of}
use Rattle.uring_model.specs.Progress.{turns}
use Rattle.uring_model.proofs.Joins.{took-append, posted-append, log-append}
use Rattle.uring_model.proofs.Whole.{turns-append}
use Rattle.ring_traits.specs.Lists.{Lists}
use Rattle.partner_traits.specs.Calls.{IsTurn}
use Rattle.uring_std.specs.Turns.{EndsBy, LogsBy, ends_as}

abbrev pub Joins : {Q : Type 0} → (Q → List Taken → List Completion → Q → Type 0) → Type 0
Joins {Q = Q} moved = (a b c : Q) (ts us : List Taken) (cs ds : List Completion) → moved a ts cs b → moved b us ds c → moved a (ts ++ us) (cs ++ ds) c

pub logs_then : {Q : Type 0} (moved : Q → List Taken → List Completion → Q → Type 0) → Joins moved
    → (a b c : List LogEvent) (s t u : Q) (ms ns : List Move) → LogsBy moved a b s t ms → LogsBy moved b c t u ns → LogsBy moved a c s u (ms ++ ns)
logs_then moved joins a b c s t u ms ns p q = record {
  sides = rw (took-append ms ns, posted-append ms ns) (joins s t u (took ms) (took ns) (posted ms) (posted ns) p.sides q.sides);
  grown = q.grown ∙ ap (λ l. l ++ log_of ns) p.grown ∙ append_assoc a (log_of ms) (log_of ns) ∙ ap (λ l. a ++ l) (sym (log-append ms ns));
}

pub logs_side : {Q : Type 0} (moved : Q → List Taken → List Completion → Q → Type 0) (a : List LogEvent) (s t : Q) → moved s [] [] t → LogsBy moved a a s t []
logs_side moved a s t m = record { sides = m; grown = sym (append-nil a) }

pub logs_nil : {Q : Type 0} (moved : Q → List Taken → List Completion → Q → Type 0) → Joins moved
    → (a b c : List LogEvent) (s t u : Q) (ms : List Move) → LogsBy moved a b s t ms → LogsBy moved b c t u [] → LogsBy moved a c s u ms
logs_nil moved joins a b c s t u ms p q = subst (λ ns. LogsBy moved a c s u ns) (append-nil ms) (logs_then moved joins a b c s t u ms [] p q)

pub count_then : (ms ns : List Move) → length (took (ms ++ ns)) ≡ length (took ms) + length (took ns)
count_then ms ns = ap length (took-append ms ns) ∙ length-append (took ms) (took ns)

pub no_turns : (ms ns : List Move) → turns ms ≡ 0 → turns ns ≡ 0 → turns (ms ++ ns) ≡ 0
no_turns ms ns p q = omega (arith, turns-append ms ns, p, q)

-- the end of an entry takes none, and begins no turn

took_none : (quietly : Bool) (n : ℕ) (c : Completion) → took ((if quietly then Quieted n else Posted c) ∷ []) ≡ []
took_none true n c = refl
took_none false n c = refl

turn_none : (quietly : Bool) (n : ℕ) (c : Completion) → turns ((if quietly then Quieted n else Posted c) ∷ []) ≡ 0
turn_none true n c = refl
turn_none false n c = refl

pub end_takes_none : (tail : Option Bool) (t : Taken) (m : Move) (after : Option Bool) → EndsBy tail t m after → took (m ∷ []) ≡ []
end_takes_none tail t m after ends = ap (λ x. took (x ∷ [])) ends.move ∙ took_none (ends_quietly (job_of ends.back) ends.result) _ _

pub end_begins_none : (tail : Option Bool) (t : Taken) (m : Move) (after : Option Bool) → EndsBy tail t m after → turns (m ∷ []) ≡ 0
end_begins_none tail t m after ends = ap (λ x. turns (x ∷ [])) ends.move ∙ turn_none (ends_quietly (job_of ends.back) ends.result) _ _

-- an entry that is taken and ends is one
pub one_taken : (t : Taken) (m : Move) → took (m ∷ []) ≡ [] → length (took (Took t ∷ m ∷ [])) ≡ 1
one_taken t m none = ap (λ ts. length (t ∷ ts)) none

pub one_turn : (to_submit p : ℕ) (lists : Option Lists) (ms ns : List Move) → p ≤ to_submit → IfSome lists (λ l. p ≡ min to_submit (length l.published)) → took ms ≡ [] → turns ms ≡ 0 → turns ns ≡ 0 → length (took ns) ≤ p → IsTurn to_submit lists (Turned p ∷ (ms ++ ns))
one_turn to_submit p lists ms ns fits told none first rest few = record {
  p = p;
  fits = fits;
  told = told;
  rest = ms ++ ns;
  moves = refl;
  one = no_turns ms ns first rest;
  few = omega (arith, count_then ms ns, ap length none, few);
}

-- what a turn took is what its second part took
pub turn_takes : (p n : ℕ) (ms ns : List Move) → took ms ≡ [] → n ≡ length (took ns) → n ≡ length (took (Turned p ∷ (ms ++ ns)))
turn_takes p n ms ns none same = omega (arith, count_then ms ns, ap length none, same)

pub first_part : (to_submit p : ℕ) (lists : Option Lists) (ms : List Move) → p ≤ to_submit → IfSome lists (λ l. p ≡ min to_submit (length l.published)) → took ms ≡ [] → turns ms ≡ 0 → IsTurn to_submit lists (Turned p ∷ ms)
first_part to_submit p lists ms fits told none first = subst (λ ns. IsTurn to_submit lists (Turned p ∷ ns)) (append-nil ms) (one_turn to_submit p lists ms [] fits told none first refl (omega arith))
