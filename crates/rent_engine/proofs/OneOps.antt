-- The polls of one operation.
use Rattle.std.proofs.Common.{◌≡◌, ℕ, Bool, true, false, cond, List, [], Option, Some, None, is_some, is_none, IfSome, inl, inr, refl, ap, sym, ◌∙◌, subst, append-nil, add-zero, eq-eqb}
use Rattle.std.specs.Ordering.{nat_cmp, eq_by_cmp}
use Rattle.std.specs.Cmp.{nat_cmp_total, unsigned_tied}
use Rattle.std.specs.FinMap.{get-insert}
use Rattle.uring_base.specs.declared.buffer.Buf.{Buf}
use Rattle.uring_base.specs.declared.events.Taken.{Taken}
use Rattle.uring_base.specs.declared.events.Completion.{Completion}
use Rattle.ring_traits.specs.Lists.{Lists, Becomes}
use Rattle.rent_engine.specs.declared.state.Poll.TheVariants.{Ready, Pending}
use Rattle.rent_engine.specs.declared.one_op.Request.{Request}
use Rattle.rent_engine.specs.declared.one_op.Stage.{Stage}
use Rattle.rent_engine.specs.declared.one_op.Stage.TheVariants.{Offers, Over}
use Rattle.rent_engine.specs.declared.one_op.OneAnswer.TheVariants.{InUse, NoMemory}
use Rattle.rent_table.specs.Ops.{Ops, flight_at, knows, started}
use Rattle.rent_engine.specs.Engines.{Offered, all_offered}
use Rattle.rent_engine.specs.OneOp.{OneStep, IsItsNumber}
use Rattle.rent_engine.specs.States.{KeepsInFlight}

none_offered : (o : Option Lists) → Becomes o (all_offered []) o
none_offered None = refl
none_offered (Some l) = ap (λ (p : List Taken). Some (record l { pushed = p })) (sym (append-nil l.pushed))

-- nothing was offered
pub Offered-none : {R : Type 0} (large : Bool) (used : R → List Taken → List Completion → R → Type 0) (lists : R → Option Lists) (room waiting : R → ℕ) → ((a : R) → used a [] [] a) → (ring after : R) → after ≡ ring → Offered large used lists room waiting ring [] after
Offered-none large used lists room waiting used_none ring after e = record {
  uses = subst (λ r. used ring [] [] r) (sym e) (used_none ring);
  told = subst (λ r. Becomes (lists ring) (all_offered []) (lists r)) (sym e) (none_offered (lists ring));
  places = sym (ap room e) ∙ sym (add-zero (room after));
  seen = ap waiting e;
}

-- a number that was given is the operation's
unknown_given : (given : Option ℕ) (ops : Ops) (n : ℕ) → IsItsNumber given ops n → false ≡ knows ops n → IfSome given (λ m. knows ops m ≡ false)
unknown_given None ops n its unknown = tt
unknown_given (Some m) ops n its unknown = ap (knows ops) (sym its) ∙ sym unknown

pub none_given : (given : Option ℕ) (ops : Ops) → is_none given ≡ true → IfSome given (λ m. knows ops m ≡ false)
none_given None ops none = tt
none_given (Some m) ops none = absurd cc

module _ (request : Request) (n : ℕ) (ops after : Ops) (buf : Option Buf) (its : IsItsNumber request.number ops n) (same : after ≡ ops) (back : buf ≡ request.buf) where
  pub held : false ≡ knows ops n → OneStep (Offers request) ops [] Pending after (Offers (record request { buf = buf }))
  held unknown = inl (record { unknown = unknown_given request.number ops n its unknown; entries = refl; operations = same; gives = refl; next = ap (λ b. Offers (record request { buf = b })) back })

  pub refused : (stage : Stage) → true ≡ knows ops n → stage ≡ Over → OneStep (Offers request) ops [] (Ready (InUse buf)) after stage
  refused stage known over = inr (n, its, inr (inl (record { known = sym known; entries = refl; operations = same; gives = ap (λ b. Ready (InUse b)) back; next = over })))

  pub lacking : (stage : Stage) → false ≡ knows ops n → stage ≡ Over → OneStep (Offers request) ops [] (Ready (NoMemory buf)) after stage
  lacking stage unknown over = inr (n, its, inr (inr (record { unknown = sym unknown; entries = refl; operations = same; gives = ap (λ b. Ready (NoMemory b)) back; next = over })))

pub started-kept : (n : ℕ) (lent : Bool) (ops after : Ops) → after ≡ started n lent None ops → KeepsInFlight ops after
started-kept n lent ops after is = λ q there. ap (λ o. is_some (flight_at o q)) is ∙ ap is_some (get-insert nat_cmp_total ops.in_flight n _ q)
    ∙ elim (eq_by_cmp nat_cmp q n) as (λ b. is_some (cond b (Some (record { lent = lent; forgotten = false; next = None })) (flight_at ops q)) ≡ true) [ true ↦ refl | false ↦ there ]

pub started-there : (n : ℕ) (lent : Bool) (ops after : Ops) → after ≡ started n lent None ops → true ≡ is_some (flight_at after n)
started-there n lent ops after is = sym (ap (λ o. is_some (flight_at o n)) is ∙ ap is_some (get-insert nat_cmp_total ops.in_flight n _ n)
    ∙ ap (λ b. is_some (cond b (Some (record { lent = lent; forgotten = false; next = None })) (flight_at ops n))) (unsigned_tied n n ∙ eq-eqb n n refl))
