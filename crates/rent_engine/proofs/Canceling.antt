-- The cancels of a handle, one after another.
use Rattle.std.proofs.Common.{◌≡◌, ℕ, ◌==◌, Bool, true, false, cond, List, [], ◌∷◌, ◌++◌, length, map, Option, Some, None, unwrap_or, refl, sym, ap, ◌∙◌, subst, arith, append_assoc, length-append, eqb-true}
use Rattle.std.specs.FinMap.{get, remove}
use Rattle.uring_base.specs.declared.events.Taken.{Taken}
use Rattle.uring_base.specs.declared.events.Completion.{Completion}
use Rattle.ring_traits.specs.Lists.{Lists, Becomes}
use Rattle.rent_table.specs.Lists.{list_at}
use Rattle.rent_table.specs.Ops.{Ops, started, forgotten}
use Rattle.rent_table.specs.Steps.{KeptSteps}
use Rattle.rent_table.proofs.Picks.{out_at}
use Rattle.rent_engine.specs.Engines.{Offered, all_offered, in_size, offered_cancel}
use Rattle.rent_engine.specs.Handles.{IsFresh, CancelsEach}

pub cancels_more : (targets : List ℕ) (ops : Ops) (ts : List Taken) (mid : Ops) (target n : ℕ) (after : Ops) → CancelsEach targets ops ts mid → IsFresh mid n → after ≡ forgotten n (started n false None mid)
    → CancelsEach (targets ++ target ∷ []) ops (ts ++ offered_cancel target n ∷ []) after
cancels_more [] ops ts mid target n after p fresh is =
    (n, [], subst (λ o. IsFresh o n) p.1 fresh, ap (λ x. x ++ offered_cancel target n ∷ []) p.0, (refl, is ∙ ap (λ o. forgotten n (started n false None o)) p.1))
cancels_more (t ∷ targets) ops ts mid target n after p fresh is = (
  p.0,
  p.1 ++ offered_cancel target n ∷ [],
  p.2,
  ap (λ x. x ++ offered_cancel target n ∷ []) p.3,
  cancels_more targets (forgotten p.0 (started p.0 false None ops)) p.1 mid target n after p.4 fresh is,
)

pub cancels_length : (targets : List ℕ) (ops : Ops) (ts : List Taken) (after : Ops) → CancelsEach targets ops ts after → length ts ≡ length targets
cancels_length [] ops ts after p = ap length p.0
cancels_length (t ∷ targets) ops ts after p =
    let rest = cancels_length targets (forgotten p.0 (started p.0 false None ops)) p.1 after p.4 in
    let here = ap length p.3 in omega (arith, rest, here)

offered_told : (a b c : Option Lists) (ts : List Taken) (t : Taken) → Becomes a (all_offered ts) b → Becomes b (all_offered (t ∷ [])) c → Becomes a (all_offered (ts ++ t ∷ [])) c
offered_told None b c ts t p q = subst (λ o. Becomes o (all_offered (t ∷ [])) c) p q
offered_told (Some l) b c ts t p q =
    let next : c ≡ Some (all_offered (t ∷ []) (all_offered ts l)) = subst (λ o. Becomes o (all_offered (t ∷ [])) c) p q in
    next ∙ ap (λ (xs : List Taken). Some (record l { pushed = xs })) (append_assoc l.pushed ts (t ∷ []))

module _ {R : Type 0} (large : Bool) (used : R → List Taken → List Completion → R → Type 0) (lists : R → Option Lists) (room waiting : R → ℕ) (used_then : (a b c : R) (ts us : List Taken) (cs ds : List Completion) → used a ts cs b → used b us ds c → used a (ts ++ us) (cs ++ ds) c) where
  -- one more entry in its size
  sizes_append : (ts : List Taken) (t : Taken) → map (in_size large) (ts ++ t ∷ []) ≡ map (in_size large) ts ++ in_size large t ∷ []
  sizes_append [] t = refl
  sizes_append (u ∷ ts) t = ap (λ us. in_size large u ∷ us) (sizes_append ts t)

  pub Offered-more : (a b c : R) (ts : List Taken) (t : Taken) → Offered large used lists room waiting a ts b → Offered large used lists room waiting b (t ∷ []) c → Offered large used lists room waiting a (ts ++ t ∷ []) c
  Offered-more a b c ts t p q = record {
    uses = subst (λ (us : List Taken). used a us [] c) (sym (sizes_append ts t)) (used_then a b c (map (in_size large) ts) (in_size large t ∷ []) [] [] p.uses q.uses);
    told = subst (λ (us : List Taken). Becomes (lists a) (all_offered us) (lists c)) (sym (sizes_append ts t)) (offered_told (lists a) (lists b) (lists c) (map (in_size large) ts) (in_size large t) p.told q.told);
    places = let x = p.places in let y = q.places in let z = length-append ts (t ∷ []) in omega (arith, x, y, z);
    seen = q.seen ∙ p.seen;
  }

-- the steps of a number that has none are dropped

none_dropped : (steps : KeptSteps) (n q : ℕ) (b : Bool) → (q == n) ≡ b → list_at steps n ≡ [] → unwrap_or (cond b None (get steps q)) [] ≡ list_at steps q
none_dropped steps n q true e none = sym (ap (list_at steps) (eqb-true q n e) ∙ none)
none_dropped steps n q false e none = refl

pub dropped_same : (old mid after : KeptSteps) (n q : ℕ) → after ≡ remove mid n → mid ≡ old → list_at mid n ≡ [] → list_at after q ≡ list_at old q
dropped_same old mid after n q e same none =
    ap (λ m. list_at m q) e ∙ ap (λ o. unwrap_or o []) (out_at mid n q) ∙ none_dropped mid n q (q == n) refl none ∙ ap (λ m. list_at m q) same
