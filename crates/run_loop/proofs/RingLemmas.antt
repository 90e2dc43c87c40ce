-- What offers make of the lists of a ring, one after another.
use Rattle.std.proofs.Common.{List, [], ◌++◌, Option, Some, None, refl, ap, sym, subst, ◌∙◌, append_assoc, append-nil}
use Rattle.uring_base.specs.declared.events.Taken.{Taken}
use Rattle.ring_traits.specs.Lists.{Lists, Becomes}
use Rattle.run_loop.specs.Rounds.{pushed_more}

pub offers-none : (a : Option Lists) → Becomes a (pushed_more []) a
offers-none None = refl
offers-none (Some l) = ap (λ (p : List Taken). Some (record l { pushed = p })) (sym (append-nil l.pushed))

pub offers_joined : (a b c : Option Lists) (ts us : List Taken) → Becomes a (pushed_more ts) b → Becomes b (pushed_more us) c → Becomes a (pushed_more (ts ++ us)) c
offers_joined None b c ts us p q = let h : Becomes None (pushed_more us) c = subst (λ x. Becomes x (pushed_more us) c) p q in h
offers_joined (Some l) b c ts us p q =
    let h : Becomes (Some (pushed_more ts l)) (pushed_more us) c = subst (λ x. Becomes x (pushed_more us) c) p q in
    h ∙ ap (λ (x : List Taken). Some (record l { pushed = x })) (append_assoc l.pushed ts us)
