-- Completions that are reaped and taken one after another.
use Rattle.std.proofs.Common.{◌≡◌, ℕ, ◌+◌, ◌-◌, ◌^◌, ◌≤◌, min, Bool, true, false, not, cond, ◌||◌, T, List, [], ◌∷◌, ◌++◌, length, count_by, Option, Some, None, is_some, IfSome, Result, Ok, Err, inl, inr, refl, sym, ap, ◌∙◌, subst, append_assoc, append-nil, length-append, arith}
use Rattle.std.proofs.lemmas.List.Sums.{fold-append}
use Rattle.uring_base.specs.declared.events.Taken.{Taken}
use Rattle.uring_base.specs.declared.events.Completion.{Completion}
use Rattle.uring_base.specs.Completions.{is_more, is_final}
use Rattle.ring_traits.specs.Lists.{Lists, Becomes, WhereTold, Reaps, all_published, free_of}
use Rattle.rent_table.specs.Ops.{Ops, flight_at}
use Rattle.rent_table.specs.Steps.{KeptSteps}
use Rattle.rent_engine.specs.declared.fault.EngineFault.{EngineFault}
use Rattle.rent_engine.specs.declared.fault.EngineFault.TheVariants.{Stranger, Fault, NoMemory}
use Rattle.rent_engine.specs.Ops.{is_stranger, completed, completed_by, kept_of, steps_after, Pumps}
use Rattle.rent_engine.specs.Engines.{Reaped, Pumped, finals_in}

-- the lists
pub published_reaped : (a b : Option Lists) → Becomes a all_published b → WhereTold (Reaped []) a b
published_reaped None b e = e
published_reaped (Some l) None e = absurd (subst T (sym (ap is_some e)) tt)
published_reaped (Some l) (Some m) e = subst (λ o. WhereTold (Reaped []) (Some l) o) (sym e) (record { published = refl; pushed = refl; completions = refl; held = refl; capacity = refl; completion_capacity = refl })

pub reaped_then : (a b c : Option Lists) (cs : List Completion) (d : Completion) → WhereTold (Reaped cs) a b → WhereTold (Reaps d) b c → WhereTold (Reaped (cs ++ d ∷ [])) a c
reaped_then None b c cs d p q = let h : WhereTold (Reaps d) None c = subst (λ x. WhereTold (Reaps d) x c) p q in h
reaped_then (Some a) None c cs d p q = absurd (p tt)
reaped_then (Some a) (Some b) None cs d p q = q
reaped_then (Some a) (Some b) (Some c) cs d p q = record {
  published = q.published ∙ p.published;
  pushed = q.pushed ∙ p.pushed;
  completions = p.completions ∙ ap (λ l. cs ++ l) q.completions ∙ sym (append_assoc cs (d ∷ []) c.completions);
  held = q.held ∙ ap (λ n. n + 1) p.held ∙ sym (length-append cs (d ∷ []));
  capacity = q.capacity ∙ p.capacity;
  completion_capacity = q.completion_capacity ∙ p.completion_capacity;
}

abbrev Sees : Option Lists → ℕ → ℕ → Type 0
Sees o room waiting = IfSome o (λ l. (room ≡ free_of l) × (waiting ≡ length l.completions))

free_same : (b c : Lists) (d : Completion) → Reaps d b c → free_of b ≡ free_of c
free_same b c d q = ap (λ n. n - (length b.published + length b.pushed)) (sym q.capacity) ∙ ap (λ l. c.capacity - (length l + length b.pushed)) (sym q.published) ∙ ap (λ l. c.capacity - (length c.published + length l)) (sym q.pushed)

one_fewer : (d : Completion) (bs cs : List Completion) (w v : ℕ) → bs ≡ d ∷ cs → w ≡ length bs → w ≡ v + 1 → v ≡ length cs
one_fewer d bs cs w v e here less = let l = ap length e in omega (arith, l, here, less)

pub sees_then : (b c : Option Lists) (d : Completion) (r s w v : ℕ) → Sees b r w → WhereTold (Reaps d) b c → s ≡ r → w ≡ v + 1 → Sees c s v
sees_then None c d r s w v p q same less = let h : Sees None s v = tt in subst (λ o. Sees o s v) (sym q) h
sees_then (Some b) None d r s w v p q same less = tt
sees_then (Some b) (Some c) d r s w v p q same less = (same ∙ p.0 ∙ free_same b c d q, one_fewer d b.completions c.completions w v q.completions p.1 less)

-- the operations
pub Pumps-more : (a : Ops) (cs : List Completion) (b : Ops) (c : Completion) (after : Ops) (end : Result (Unit {0}) EngineFault) → Pumps a cs b (Ok tt) → Pumps b (c ∷ []) after end → Pumps a (cs ++ c ∷ []) after end
Pumps-more a [] b c after end p q = subst (λ o. Pumps o (c ∷ []) after end) p q
Pumps-more a (d ∷ cs) b c after end (inl p) q = let e : ⊥ = cc (p.3) in absurd e
Pumps-more a (d ∷ cs) b c after end (inr p) q = inr (p.0, Pumps-more (completed a d) cs b c after end p.1 q)

untrue : (b : Bool) → true ≡ not b → b ≡ false
untrue true e = absurd (subst T e tt)
untrue false e = refl

is_true : (b : Bool) → false ≡ not b → b ≡ true
is_true true e = refl
is_true false e = absurd (subst T (sym e) tt)

pub Pumps-taken : (now : Ops) (c : Completion) (after : Ops) → after ≡ completed now c → true ≡ not (is_stranger now c) → Pumps now (c ∷ []) after (Ok tt)
Pumps-taken now c after e ok = inr (untrue _ ok, e)

pub Pumps-strange : (now : Ops) (c : Completion) (after : Ops) (fault : EngineFault) → after ≡ completed now c → false ≡ not (is_stranger now c) → fault ≡ Stranger c.user_data → Pumps now (c ∷ []) after (Err fault)
Pumps-strange now c after fault e ok named =
    let strange = is_true _ ok in
    inl (strange, refl, e ∙ ap (λ b. cond (b || is_more c.flags) now (completed_by (flight_at now c.user_data) c now)) strange, ap Err named)

-- memory lacks for the next step
pub Pumps-lacking : (a : Ops) (cs : List Completion) (b : Ops) → Pumps a cs b (Ok tt) → Pumps a cs b (Err NoMemory)
Pumps-lacking a [] b p = p
Pumps-lacking a (d ∷ cs) b (inl p) = let e : ⊥ = cc (p.3) in absurd e
Pumps-lacking a (d ∷ cs) b (inr p) = inr (p.0, Pumps-lacking (completed a d) cs b p.1)

-- the kept steps
kept_more : (a : Ops) (cs : List Completion) (b : Ops) (c : Completion) (steps : KeptSteps) → Pumps a cs b (Ok tt) → kept_of b c (steps_after a cs steps) ≡ steps_after a (cs ++ c ∷ []) steps
kept_more a [] b c steps p = ap (λ o. kept_of o c steps) p
kept_more a (d ∷ cs) b c steps (inl p) = let e : ⊥ = cc (p.3) in absurd e
kept_more a (d ∷ cs) b c steps (inr p) = kept_more (completed a d) cs b c (kept_of a d steps) p.1

-- one more
module _ {R : Type 0} (used : R → List Taken → List Completion → R → Type 0) (lists : R → Option Lists) (room waiting : R → ℕ) (used_then : (a b c : R) (ts us : List Taken) (cs ds : List Completion) → used a ts cs b → used b us ds c → used a (ts ++ us) (cs ++ ds) c) where
  at_most : (r : ℕ) (s t : ℕ) → t ≡ s → r ≤ s → r ≤ t
  at_most r s t e le = omega (arith, e, le)

  pub Pumped-more : (before b here after left : R) (ops mid now ops' : Ops) (steps kept held steps' : KeptSteps) (end : Result (Unit {0}) EngineFault) (c : Completion) (p : Pumped used lists room waiting before b ops mid steps kept (Ok tt))
      → here ≡ b → now ≡ mid → held ≡ kept → left ≡ after → used here [] (c ∷ []) after → WhereTold (Reaps c) (lists here) (lists after) → room after ≡ room here → waiting here ≡ waiting after + 1
      → Pumps now (c ∷ []) ops' end → steps' ≡ kept_of now c held → (q : Pumped used lists room waiting before left ops ops' steps steps' end) × (q.completions ≡ p.completions ++ c ∷ [])
  Pumped-more before b here after left ops mid now ops' steps kept held steps' end c p at same same_steps last uses told rooms less takes keeps =
      let same_room = rooms ∙ ap room at in
      subst (λ r. (q : Pumped used lists room waiting before r ops ops' steps steps' end) × (q.completions ≡ p.completions ++ c ∷ [])) (sym last) (
        record {
          completions = p.completions ++ c ∷ [];
          uses = used_then before b after [] [] p.completions (c ∷ []) p.uses (subst (λ r. used r [] (c ∷ []) after) at uses);
          told = reaped_then (lists before) (lists b) (lists after) p.completions c p.told (subst (λ r. WhereTold (Reaps c) (lists r) (lists after)) at told);
          seen = sees_then (lists b) (lists after) c (room b) (room after) (waiting b) (waiting after) p.seen (subst (λ r. WhereTold (Reaps c) (lists r) (lists after)) at told) same_room (sym (ap waiting at) ∙ less);
          places = at_most (room before) (room b) (room after) same_room p.places;
          completed = Pumps-more ops p.completions mid c ops' end p.completed (subst (λ o. Pumps o (c ∷ []) ops' end) same takes);
          kept = keeps ∙ (λ i. kept_of (same i) c ((same_steps ∙ p.kept) i)) ∙ kept_more ops p.completions mid c steps p.completed;
        },
        refl,
      )

  -- nothing more was left
  pub Pumped-same : (before b here after : R) (ops mid now : Ops) (steps kept held : KeptSteps) (p : Pumped used lists room waiting before b ops mid steps kept (Ok tt))
      → here ≡ b → now ≡ mid → held ≡ kept → used here [] [] after → lists after ≡ lists here → room after ≡ room here → waiting here ≡ waiting after
      → (q : Pumped used lists room waiting before after ops now steps held (Ok tt)) × (finals_in q.completions ≡ finals_in p.completions)
  Pumped-same before b here after ops mid now steps kept held p at same same_steps uses told rooms less =
      let u = used_then before b after [] [] p.completions [] p.uses (subst (λ r. used r [] [] after) at uses) in
      let lists_same = told ∙ ap lists at in
      let room_same = rooms ∙ ap room at in
      let waiting_same = sym less ∙ ap waiting at in (
        record {
          completions = p.completions;
          uses = subst (λ cs. used before [] cs after) (append-nil p.completions) u;
          told = subst (λ o. WhereTold (Reaped p.completions) (lists before) o) (sym lists_same) p.told;
          seen = subst (λ o. Sees o (room after) (waiting after)) (sym lists_same) (subst (λ n. Sees (lists b) n (waiting after)) (sym room_same) (subst (λ n. Sees (lists b) (room b) n) (sym waiting_same) p.seen));
          places = at_most (room before) (room b) (room after) room_same p.places;
          completed = subst (λ o. Pumps ops p.completions o (Ok tt)) (sym same) p.completed;
          kept = same_steps ∙ p.kept;
        },
        refl,
      )

  -- memory lacks for the next step
  pub Pumped-lacking : (before b here : R) (ops mid now : Ops) (steps kept held : KeptSteps) → Pumped used lists room waiting before b ops mid steps kept (Ok tt) → here ≡ b → now ≡ mid → held ≡ kept → Pumped used lists room waiting before here ops now steps held (Err NoMemory)
  Pumped-lacking before b here ops mid now steps kept held p at same same_steps =
      subst (λ r. Pumped used lists room waiting before r ops now steps held (Err NoMemory)) (sym at) (record {
        completions = p.completions;
        uses = p.uses;
        told = p.told;
        seen = p.seen;
        places = p.places;
        completed = subst (λ o. Pumps ops p.completions o (Err NoMemory)) (sym same) (Pumps-lacking ops p.completions mid p.completed);
        kept = same_steps ∙ p.kept;
      })

-- how many are final
count_more : (p : Completion → Bool) (cs : List Completion) (c : Completion) → count_by p (cs ++ c ∷ []) ≡ count_by p cs + cond (p c) 1 0
count_more p cs c = fold-append (λ a x. a + cond (p x) 1 0) 0 cs (c ∷ [])

capped : (n m k : ℕ) (b : Bool) → n ≡ m + cond b 1 0 → min (min m k + cond b 1 0) k ≡ min n k
capped n m k true e = grind (arith, e)
capped n m k false e = grind (arith, e)

pub finals_more : (cs : List Completion) (c : Completion) (k next : ℕ) (b : Bool) → b ≡ is_final c.flags → k ≡ finals_in cs → next ≡ min (k + cond b 1 0) (2 ^ 32 - 1) → next ≡ finals_in (cs ++ c ∷ [])
finals_more cs c k next b final is e =
    e ∙ ap (λ x. min (x + cond b 1 0) (2 ^ 32 - 1)) is ∙ ap (λ x. min (finals_in cs + cond x 1 0) (2 ^ 32 - 1)) final
    ∙ capped _ _ (2 ^ 32 - 1) (is_final c.flags) (count_more (λ d. is_final d.flags) cs c)

-- a pump's fault is never a partner's
pub no_fault : (ops : Ops) (cs : List Completion) (after : Ops) (errno : ℕ) → Pumps ops cs after (Err (Fault errno)) → ⊥
no_fault ops [] after errno p = p
no_fault ops (c ∷ cs) after errno (inl p) = let e : ⊥ = cc (p.3) in e
no_fault ops (c ∷ cs) after errno (inr p) = no_fault (completed ops c) cs after errno p.1
