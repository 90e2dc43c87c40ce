-- `both` lends the two rings, and `queues` keeps their names: so what `both` says of the names holds of the queue values'. Assumes `Logic`.
use mathlib.Core.Path.{◌≡◌, refl, sym, ap, ◌∙◌}
use mathlib.Core.List.{List, [], ◌∷◌, ◌++◌}
use mir.Syntax.{Args, Fn, a_type, named}
use mir.MapTy.{inst_fn}
use mir.Val.{Val, vstruct, of_list}
use base.Logic.{emp, id⊢}
use base.Fml.{GName, Lft, ftrue}
use types.Kit.{‵, ◌⊛◌, raw, given, some, later, ◌$◌, ◌∵◌, !, qed, move, keep, drop, learn, split, split3, join, fsplit, fsplit3, fjoin, fpick, use0, use1, use2, await, pick, suffices, frame, done, rewrite, feq_i, feq_l}
use types.Part.{whole, sub}
use types.Run.{of_opd, stop, fld, addr, and_then, no_more, returns, enter}
use types.ByLocal.{alloc_all, pass_all, free_all, look_at, get, get_in, through, sets, lands_as}
use contract.BorrowLft.{◌⊑◌}
use contract.Monad.{fact, fact_i}
use contract.Running.{tables}
use denote.Exit.{no}
use denote.Follow.{follows_both}
use denote.Laws.{Is, shows}
use denote.Param.{param, layouts}
use denote.Param.Laws.{Laws, param_laws}
use denote.RattleType.{RattleType}
use denote.Ref.{MutBor, MutRef, mut_vals, mut_Tells, NamedLft}
use denote.Signature.{plain, mut_ref_to}
use denote.Steps.{nothing, heard, only, peeks}
use denote.Struct.Tuple.{Tuple, tuple_laws}
use denote.Triple.Call.{calls_at}
use denote.Triple.Clauses.{lasts}
use denote.Triple.Entry.{on_entry, alive}
use denote.Triple.Spec.{triple_of}
use denote.Triple.Table.{framed}
use denote.Triple.Walked.{Stays, stay_dropped, walk_of, ends_at, Goes-spent_ref}
use Rattle.std.proofs.raw_atomic.Walks.{proved}
use Rattle.ring_core.specs.Slots.{held_of, with_head_seen, with_tail_seen}
use Rattle.uring_ring.specs.Queues.{entries_at, completions_at, submission_words_at, completion_words_at}
use Rattle.uring_ring.specs.declared.submission_ring.SubmissionRing.{SubmissionRing}
use Rattle.uring_ring.specs.declared.completion_ring.CompletionRing.{CompletionRing}
use Rattle.uring_ring.specs.declared.submission_queue.SubmissionQueue.{SubmissionQueue}
use Rattle.uring_ring.specs.declared.completion_queue.CompletionQueue.{CompletionQueue}
use Rattle.uring_ring.specs.contracts.io_uring.IoUring as io_uring
use Rattle.uring_ring.specs.contracts.submission_ring.SubmissionRing.{the_row as T}
use Rattle.uring_ring.specs.contracts.completion_ring.CompletionRing.{the_row as U}
use Rattle.uring_ring.specs.contracts.submission_queue.SubmissionQueue as submission_queue
use Rattle.uring_ring.specs.contracts.completion_queue.CompletionQueue as completion_queue
use Rattle.uring_ring.proofs.submission_queue.SubmissionQueue.TheLaws as submission_laws
use Rattle.uring_ring.proofs.completion_queue.CompletionQueue.TheLaws as completion_laws
use Rattle.uring_ring.specs.contracts.io_uring.IoUring.both as lender
use Rattle.uring_ring.proofs.io_uring.IoUring.both.Met as both_met
use Rattle.uring_ring.specs.contracts.pair.queues as maker
use Rattle.uring_ring.proofs.pair.queues.Met as queues_met
use Rattle.uring_ring.specs.contracts.io_uring.IoUring.split as f
use Rattle.uring_ring.proofs.io_uring.IoUring.split.Statement.{statement}
use Rattle.uring_ring.proofs.io_uring.IoUring.split.Code as code

abbrev Refs : Lft → List RattleType
Refs κ = MutRef (named 0) κ T ∷ MutRef (named 0) κ U ∷ []

module _ (S C : RattleType) where
  abbrev args : Args
  args = layouts (a_type ∷ a_type ∷ []) (S, (C, tt))

  abbrev function : Fn
  function = inst_fn args code.function

  abbrev R : RattleType
  R = io_uring.the_row (param 0 S) (param 1 C)

  abbrev with_both : R.Denot → SubmissionRing → CompletionRing → R.Denot
  with_both d x y = record d { submissions = x; completions = y }

  abbrev stayed : Stays (f.ended S C).signature.params (f.ended S C).kept
  stayed = (stay_dropped (mut_ref_to (0 ∷ []) tt (plain (λ _. R))) no, tt)

  abbrev at : Lft → NamedLft
  at κ = record { mir = named 0; lft = κ }

  abbrev Queues : Lft → RattleType
  Queues κ = Tuple (submission_queue.the_row (at κ) (param 0 S) ∷ completion_queue.the_row (at κ) (param 1 C) ∷ [])

  abbrev queues_laws : Laws S → Laws C → (κ : Lft) → Laws (Queues κ)
  queues_laws LS LC κ = tuple_laws (submission_queue.the_row (at κ) (param 0 S) ∷ completion_queue.the_row (at κ) (param 1 C) ∷ [])
      (submission_laws.the_row_laws (at κ) (param 0 S) (param_laws 0 S LS), (completion_laws.the_row_laws (at κ) (param 1 C) (param_laws 1 C LC), tt))

pub split_spec : {M : Type 1} → statement M
split_spec 𝓤 𝓛 𝓜 𝓡 wired S C LS LC =
    let c = f.clauses S C 𝓛 𝓜.mem 𝓡.returns in let E = f.ended S C in let h = stayed S C in let W = walk_of 𝓛 E h c in let 𝓣 = tables 𝓤 𝓛.H 𝓜 𝓡 𝓡.env in
    proved 𝓛 E h c 𝓜 𝓡 (Goes-spent_ref 𝓛 3 (0 ∷ []) tt (plain (λ _. R S C)), tt)
    (f.Key.name (args S C)) (function S C) (code.unfolded 𝓤 𝓛.H 𝓜 𝓡 wired (S, (C, tt)))
    (λ κs. (mut_vals, tt)) (λ κs. (mut_Tells (named 0) κs.0 (R S C), tt)) (λ κs qs bounds a g are.
    let κ = κs.0 in let d = a.0.now in let vs = mut_vals a.0 in
    let y : W.Ghost = ((κs, qs, bounds, a, (vs, tt)), tt) in
    let G₁ = triple_of 𝓛 (lender.signature S C) (lender.spec S C 𝓛 𝓜.mem 𝓡.returns) in let z₁ : G₁.Ghost = ((κs, qs, bounds, a, (vs, tt)), tt) in
    let G₂ = triple_of 𝓛 (maker.signature S C) (maker.spec S C 𝓛 𝓜.mem 𝓡.returns) in
    let Tie = λ (γ₁ γ₂ : GName). ‵ (follows_both (R S C) T U a.0.ghost_name γ₁ γ₂ (with_both S C d)) in
    qed 𝓛 (raw (on_entry 𝓛 E.signature κs qs a (vs, tt)) ∷ (given (κs.1.0 ⊑ S.lives) (‵ ftrue) ⊛ given (κs.1.1.0 ⊑ C.lives) (‵ ftrue) ⊛ ‵ ftrue) ∷ []) ∵
    move ! (1 ∷ []) $ split3 ! $ learn ! (λ hS. drop ! $ learn ! (λ hC. drop ! $ drop ! $
    enter ! _ _ _ _ _ $ alloc_all ! (λ l. pass_all ! refl ((tt, tt), tt) $
    sets ! (addr ! (through ! refl (stop !))) refl (tt, tt) $
    nothing ! $ use0 𝓛 (raw (fact 𝓤 (κs.1.1.0 ⊑ C.lives))) (fact_i 𝓤 _ (emp 𝓤) hC) $ join ! $ use0 𝓛 (raw (fact 𝓤 (κs.1.0 ⊑ S.lives))) (fact_i 𝓤 _ (emp 𝓤) hS) $ join ! $
    move ! (1 ∷ 0 ∷ []) $ use2 𝓛 (raw (G₁.pre z₁)) (id⊢ 𝓤 _) $
    calls_at ! (framed 𝓤 𝓛.H 𝓜 𝓣) G₁ (both_met.met 𝓤 𝓛 𝓜 𝓡 (code.calls-uring_ring::io_uring::IoUring::both 𝓡.env wired) S C LS LC) z₁ (and_then ! (get ! refl) (no_more !)) (λ v.
    use1 𝓛 (later (some (λ (r : MutBor SubmissionRing × MutBor CompletionRing). (raw (alive 𝓛 E.signature κs qs) ⊛ ‵ ((Tuple (Refs κ)).own_val r (v ∷ []))) ⊛
    some (λ (ws : Unit {0} × Unit {0}). ‵ (lasts (lender.ended S C) κs a ws) ⊛ Tie r.0.ghost_name r.1.ghost_name ⊛ raw (fact 𝓤 ((r.0.now ≡ d.submissions) × (r.1.now ≡ d.completions))))))) (id⊢ 𝓤 _) $
    await ! tt $ pick ! (λ r. split ! $ split ! $ move ! (1 ∷ []) $ fpick ! (λ vss. fsplit ! $ feq_l ! (λ e. fsplit3 ! $ fsplit ! $ feq_l ! (λ e₁. move ! (1 ∷ []) $ fsplit ! $ feq_l ! (λ e₂.
    -- [the second borrow; the first; nothing; the tokens; what `both` says]
    lands_as ! (ap only e ∙ (λ i. vstruct (of_list (e₁ i ++ (e₂ i ++ []))))) refl (tt, (tt, (tt, tt))) $
    sets ! (of_opd ! (get_in ! (fld ! refl (stop !)) (sub ! 0 refl (whole !)))) refl (tt, tt) $
    sets ! (of_opd ! (get_in ! (fld ! refl (stop !)) (sub ! 1 refl (whole !)))) refl (tt, tt) $
    sets ! (addr ! (through ! refl (stop !))) refl (tt, tt) $
    sets ! (addr ! (through ! refl (stop !))) refl (tt, tt) $
    feq_i ! (List Val) (mut_vals r.1) (mut_vals r.1) refl $ fjoin ! $ move ! (0 ∷ 2 ∷ []) $ fjoin ! $ move ! (1 ∷ []) $ feq_i ! (List Val) (mut_vals r.0) (mut_vals r.0) refl $ fjoin ! $ fjoin ! $
    move ! (1 ∷ 0 ∷ []) $ join ! $
    nothing ! $ use0 𝓛 (raw (fact 𝓤 (κs.1.1.0 ⊑ C.lives))) (fact_i 𝓤 _ (emp 𝓤) hC) $ join ! $ use0 𝓛 (raw (fact 𝓤 (κs.1.0 ⊑ S.lives))) (fact_i 𝓤 _ (emp 𝓤) hS) $ join ! $
    let z₂ : G₂.Ghost = ((κs, qs, tt, (r.0, (r.1, tt)), (mut_vals r.0, (mut_vals r.1, tt))), tt) in
    move ! (1 ∷ 0 ∷ []) $ use2 𝓛 (raw (G₂.pre z₂)) (id⊢ 𝓤 _) $
    calls_at ! (framed 𝓤 𝓛.H 𝓜 𝓣) G₂ (queues_met.met 𝓤 𝓛 𝓜 𝓡 (code.calls-uring_ring::pair::queues 𝓡.env wired) S C LS LC) z₂ (and_then ! (get ! refl) (and_then ! (get ! refl) (no_more !))) (λ w.
    use1 𝓛 (later (some (λ (s : SubmissionQueue S.Denot × CompletionQueue C.Denot). (raw (alive 𝓛 E.signature κs qs) ⊛ ‵ ((Queues S C κ).own_val s (w ∷ []))) ⊛
    some (λ (us : Unit {0} × (Unit {0} × Unit {0})). ‵ (lasts (maker.ended S C) κs z₂.0.3 us) ⊛ raw (fact 𝓤 (s.0.ring.ghost_name ≡ r.0.ghost_name)) ⊛ raw (fact 𝓤 (s.1.ring.ghost_name ≡ r.1.ghost_name)) ⊛
    raw (fact 𝓤 (entries_at s.0 ≡ with_head_seen (held_of r.0.now.slots))) ⊛ raw (fact 𝓤 (completions_at s.1 ≡ with_tail_seen (held_of r.1.now.slots))) ⊛
    raw (fact 𝓤 (submission_words_at s.0 ≡ r.0.now.words)) ⊛ raw (fact 𝓤 (completion_words_at s.1 ≡ r.1.now.words)))))) (id⊢ 𝓤 _) $
    await ! tt $ pick ! (λ s. split ! $ split ! $ move ! (2 ∷ []) $ pick ! (λ us. split ! $ drop ! $ split ! $ heard ! _ (λ n₁. split ! $ heard ! _ (λ n₂. split ! $ heard ! _ (λ s₁. split ! $ heard ! _ (λ s₂. split ! $ heard ! _ (λ s₃. heard ! _ (λ s₄.
    -- [the tokens; the queue values; what `both` says]
    move ! (2 ∷ []) $ pick ! (λ ws. split ! $ drop ! $ split ! $ move ! (1 ∷ []) $ heard ! _ (λ here.
    rewrite ! 0 (λ (γ : GName). Tie γ r.1.ghost_name) (sym n₁) refl $ rewrite ! 0 (λ (γ : GName). Tie s.0.ring.ghost_name γ) (sym n₂) refl $ move ! (2 ∷ []) $
    peeks ! (Queues S C κ) (Is (Queues S C κ)) (shows 𝓛 (Queues S C κ)) s (w ∷ []) (λ is. lands_as ! refl refl (((queues_laws S C LS LC κ).lawful 𝓛).typed s _ is).0 $
    returns ! (look_at ! 0 refl) $ free_all ! refl $ keep ! (2 ∷ 0 ∷ 1 ∷ []) $
    suffices ! _ (ends_at 𝓛 E h c y w s (tt, tt) (tt, tt)) $
    move ! (1 ∷ []) $ nothing ! $ nothing ! $ fjoin ! $ join ! $ move ! (1 ∷ 0 ∷ []) $ join ! $ frame ! $
    use0 𝓛 (raw (fact 𝓤 (completion_words_at s.1 ≡ d.completions.words))) (fact_i 𝓤 _ (emp 𝓤) (s₄ ∙ ap (λ (x : CompletionRing). x.words) here.1)) $
    use0 𝓛 (raw (fact 𝓤 (submission_words_at s.0 ≡ d.submissions.words))) (fact_i 𝓤 _ (emp 𝓤) (s₃ ∙ ap (λ (x : SubmissionRing). x.words) here.0)) $ join ! $
    use0 𝓛 (raw (fact 𝓤 (completions_at s.1 ≡ with_tail_seen (held_of d.completions.slots)))) (fact_i 𝓤 _ (emp 𝓤) (s₂ ∙ ap (λ (x : CompletionRing). with_tail_seen (held_of x.slots)) here.1)) $ join ! $
    use0 𝓛 (raw (fact 𝓤 (entries_at s.0 ≡ with_head_seen (held_of d.submissions.slots)))) (fact_i 𝓤 _ (emp 𝓤) (s₁ ∙ ap (λ (x : SubmissionRing). with_head_seen (held_of x.slots)) here.0)) $ join ! $
    move ! (1 ∷ 0 ∷ []) $ join ! $ done !))))))))))))))))))))))
