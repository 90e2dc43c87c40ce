-- The laws of both sides, for what a pair of rings holds, and their proofs.
use Rattle.std.proofs.Common.{◌≡◌, ℕ, ◌+◌, ◌%◌, ◌^◌, List, [], ◌++◌, length, map, refl, sym, ap, ◌∙◌, arith, append_assoc, append-nil, length-append}
use Rattle.std.proofs.lemmas.List.{map-append}
use Rattle.std.proofs.Math.Nat.{add-mod}
use Rattle.uring_base.specs.declared.events.Taken.{Taken}
use Rattle.uring_base.specs.declared.events.Completion.{Completion}
use Rattle.ring_traits.specs.Lists.{Lists, Moves, Uses, Advances}

pub Moves-none : (kept : Completion → Completion) (l : Lists) → Moves kept l [] [] l
Moves-none kept l = record { taken = refl; posted = sym (append-nil l.completions); pushed = refl; capacity = refl; completion_capacity = refl; held = refl }

pub Moves-then : (kept : Completion → Completion) (a b c : Lists) (ts us : List Taken) (cs ds : List Completion) → Moves kept a ts cs b → Moves kept b us ds c → Moves kept a (ts ++ us) (cs ++ ds) c
Moves-then kept a b c ts us cs ds p q = record {
  taken = p.taken ∙ ap (λ l. ts ++ l) q.taken ∙ sym (append_assoc ts us c.published);
  posted = q.posted ∙ ap (λ l. l ++ map kept ds) p.posted ∙ append_assoc a.completions (map kept cs) (map kept ds) ∙ ap (λ l. a.completions ++ l) (sym (map-append kept cs ds));
  pushed = q.pushed ∙ p.pushed;
  capacity = q.capacity ∙ p.capacity;
  completion_capacity = q.completion_capacity ∙ p.completion_capacity;
  held = q.held ∙ p.held;
}

pub Uses-none : (l : Lists) → Uses l [] [] l
Uses-none l = record { entries = sym (append-nil (l.published ++ l.pushed)); reaped = refl; capacity = refl; completion_capacity = refl }

pub Uses-then : (a b c : Lists) (ts us : List Taken) (cs ds : List Completion) → Uses a ts cs b → Uses b us ds c → Uses a (ts ++ us) (cs ++ ds) c
Uses-then a b c ts us cs ds p q = record {
  entries = q.entries ∙ ap (λ l. l ++ us) p.entries ∙ append_assoc (a.published ++ a.pushed) ts us;
  reaped = p.reaped ∙ ap (λ l. cs ++ l) q.reaped ∙ sym (append_assoc cs ds c.completions);
  capacity = q.capacity ∙ p.capacity;
  completion_capacity = q.completion_capacity ∙ p.completion_capacity;
}

pub Advances-none : (p : ℕ) → Advances p 0 p
Advances-none p = ap (λ (x : ℕ). x % 2 ^ 32) (let e : p ≡ p + 0 = omega arith in e)

pub Advances-then : {T : Type 0} (p q r : ℕ) (ts us : List T) → Advances p (length ts) q → Advances q (length us) r → Advances p (length (ts ++ us)) r
Advances-then p q r ts us f g =
    let sum : p + length ts + length us ≡ p + length (ts ++ us) = omega (arith, length-append ts us) in
    g ∙ add-mod q (length us) (2 ^ 32) ∙ ap (λ (x : ℕ). (x + length us % 2 ^ 32) % 2 ^ 32) f ∙ sym (add-mod (p + length ts) (length us) (2 ^ 32)) ∙ ap (λ (x : ℕ). x % 2 ^ 32) sum
