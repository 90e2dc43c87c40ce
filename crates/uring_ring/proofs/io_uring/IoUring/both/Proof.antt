-- The two rings are cut out of the struct's memory, each under a new name, and the struct follows both names. Assumes `Logic`.
use mathlib.Core.Path.{◌≡◌, refl, sym, subst}
use Prim.Native.Nat.{ℕ, ◌+◌}
use mathlib.Core.List.{List, [], ◌∷◌}
use seplogic.Ra.Ura.{Ura}
use base.Fraction.{full_share}
use mir.Syntax.{Args, Fn, a_type, named}
use mir.MapTy.{inst_fn}
use mir.Val.{Val, vptr, vstruct, vcons, vnil}
use base.Logic.{SProp, ent, sep, ex, wand, all_e, apply∗}
use base.Fml.{Fml, Lft, GName, Share, ftrue, flft, fobs, fbor}
use prog.Memory.{align, size, up}
use types.Logic.{Logic, sem}
use types.Mut.{open_ref}
use types.SemTy.{Body}
use types.Follow.{takes_two}
use types.Kit.{Item, ‵, ◌⊛◌, raw, some, later, ◌$◌, ◌∵◌, !, qed, by, move, keep, drop, split, split3, join, fsplit3, fjoin, fjoin3, fpack, use1, use2, await, pick, suffices, frame, done, updating, group, now, show, feq_i}
use types.Part.{agg}
use types.Run.{stop, fld, addr, and_then, no_more, returns, enter}
use types.ByLocal.{alloc_all, pass_all, free_all, look_at, get, through, sets}
use denote.Exit.{no}
use denote.Follow.{both_by, follows_both}
use denote.Memory.{part_at, part_of, mem, lone}
use denote.Param.{param, layout, layouts}
use denote.Param.Laws.{Laws, param_laws}
use denote.RattleType.{RattleType, Denots, Valss}
use denote.Ref.{MutBor, MutRef, mut_vals, mut_Tells}
use denote.Signature.{plain, mut_ref_to}
use denote.Steps.{nothing}
use denote.Struct.Declared.{shape}
use denote.Struct.Field.{Field}
use denote.Struct.Members.{Member, rows_of, parts_at}
use denote.Struct.Parts.{PartsBack, Struct-parts, shape_of}
use denote.Struct.Struct.{Struct, within}
use denote.Struct.Tuple.{Tuple, tuple_type}
use denote.Laws.{Lawfuls}
use denote.Triple.Walked.{says, Stays, stay_dropped, walk_of, ends_at, Goes-spent_ref}
use Rattle.std.proofs.raw_atomic.Walks.{proved}
use Rattle.std.specs.contracts.marker.PhantomData as phantom
use Rattle.ring_setup.specs.contracts.parameters.Parameters as parameters
use Rattle.uring_ring.specs.declared.submission_ring.SubmissionRing.{SubmissionRing}
use Rattle.uring_ring.specs.declared.completion_ring.CompletionRing.{CompletionRing}
use Rattle.uring_ring.specs.contracts.io_uring.IoUring as io_uring
use Rattle.uring_ring.specs.contracts.submission_ring.SubmissionRing.{the_row as T}
use Rattle.uring_ring.specs.contracts.completion_ring.CompletionRing.{the_row as U}
use Rattle.uring_ring.proofs.io_uring.IoUring.TheLaws as io_uring_laws
use Rattle.uring_ring.proofs.submission_ring.SubmissionRing.TheLaws as submission_laws
use Rattle.uring_ring.proofs.completion_ring.CompletionRing.TheLaws as completion_laws
use Rattle.uring_ring.specs.contracts.io_uring.IoUring.both as f
use Rattle.uring_ring.proofs.io_uring.IoUring.both.Statement.{statement}
use Rattle.uring_ring.proofs.io_uring.IoUring.both.Code as code

abbrev first : Member
first = record { row = T; ty = layout T }

abbrev second : Member
second = record { row = U; ty = layout U }

-- where they begin, and where the second ends
abbrev at₁ : ℕ
at₁ = up (align first.ty) 0

abbrev at₂ : ℕ
at₂ = up (align second.ty) (at₁ + size first.ty)

module _ (S C : RattleType) where
  abbrev args : Args
  args = layouts (a_type ∷ a_type ∷ []) (S, (C, tt))

  abbrev function : Fn
  function = inst_fn args code.function

  abbrev R : RattleType
  R = io_uring.the_row (param 0 S) (param 1 C)

  abbrev Sizes : Field
  Sizes = phantom.the_field (Tuple (param 0 S ∷ param 1 C ∷ []))

  abbrev others : List Member
  others = record { row = (parameters.the_field).row; ty = layout parameters.the_row } ∷ record { row = Sizes.row; ty = lone Sizes.row.mir } ∷ []

  abbrev ms : List Member
  ms = first ∷ second ∷ others

  abbrev Bare : RattleType
  Bare = Struct (shape_of (io_uring.the_type (param 0 S) (param 1 C)).name ms)

  abbrev parts : R.Denot → Denots (rows_of ms)
  parts d = (d.submissions, (d.completions, ((io_uring.the_type (param 0 S) (param 1 C)).to d).1.1))

  abbrev with_both : R.Denot → SubmissionRing → CompletionRing → R.Denot
  with_both d x y = record d { submissions = x; completions = y }

  same : (d : R.Denot) (b o : ℕ) → part_at R full_share d b o ≡ part_at Bare full_share (parts d) b o
  unfolding part_of
  same d b o = refl

  abbrev stayed : Stays (f.ended S C).signature.params (f.ended S C).kept
  stayed = (stay_dropped (mut_ref_to (0 ∷ []) tt (plain (λ _. R))) no, tt)

  module _ (LS : Laws S) (LC : Laws C) {M : Type 1} {𝓤 : Ura M} (𝓛 : Logic 𝓤) (b o : ℕ) where
    open 𝓛 use {H, A}

    lawful : Lawfuls 𝓛 (rows_of ms)
    lawful = let laws = io_uring_laws.the_laws (param 0 S) (param 1 C) (param_laws 0 S LS) (param_laws 1 C LC) in
        (submission_laws.the_row_laws.lawful 𝓛, (completion_laws.the_row_laws.lawful 𝓛, (laws.1.1.0.lawful 𝓛, (laws.1.1.1.0.lawful 𝓛, tt))))

    abbrev Back : SProp 𝓤
    Back = PartsBack 𝓛 full_share (io_uring.the_type (param 0 S) (param 1 C)).name ms b o

    abbrev beside : R.Denot → Fml
    beside d = parts_at full_share others (at₂ + size second.ty) (parts d).1.1 b o

    apart : (d : R.Denot) → ent 𝓤 (sem 𝓛 (part_at R full_share d b o)) (sep 𝓤 (sem 𝓛 (parts_at full_share ms 0 (parts d) b o)) Back)
    apart d = subst (λ (X : Fml). ent 𝓤 (sem 𝓛 X) (sep 𝓤 (sem 𝓛 (parts_at full_share ms 0 (parts d) b o)) Back)) (sym (same d b o))
        (Struct-parts 𝓛 full_share (io_uring.the_type (param 0 S) (param 1 C)).name ms lawful (parts d) b o)

    whole : (d : R.Denot) → ent 𝓤 (sep 𝓤 (sem 𝓛 (parts_at full_share ms 0 (parts d) b o)) Back) (sem 𝓛 (part_at R full_share d b o))
    whole d = subst (λ (X : Fml). ent 𝓤 (sep 𝓤 (sem 𝓛 (parts_at full_share ms 0 (parts d) b o)) Back) (sem 𝓛 X)) (sym (same d b o))
        (qed 𝓛 (‵ (parts_at full_share ms 0 (parts d) b o) ∷ raw Back ∷ []) ∵ move ! (1 ∷ []) $
        use1 𝓛 (raw (wand 𝓤 (sem 𝓛 (parts_at full_share ms 0 (parts d) b o)) (sem 𝓛 (part_at Bare full_share (parts d) b o))))
        (all_e 𝓤 (λ (z : Denots (rows_of ms)). wand 𝓤 (sem 𝓛 (parts_at full_share ms 0 z b o)) (sem 𝓛 (part_at Bare full_share z b o))) (parts d)) $
        move ! (1 ∷ 0 ∷ []) $ by ! (apply∗ 𝓤 (sem 𝓛 (parts_at full_share ms 0 (parts d) b o)) (sem 𝓛 (part_at Bare full_share (parts d) b o))))

    abbrev Rest : R.Denot → SProp 𝓤
    Rest d = sep 𝓤 (sem 𝓛 (beside d)) Back

    back : (d : R.Denot) (x : SubmissionRing) (y : CompletionRing) → ent 𝓤 (sep 𝓤 (sem 𝓛 ((mem T).own_at x b (o + at₁))) (sep 𝓤 (sem 𝓛 ((mem U).own_at y b (o + at₂))) (Rest d))) (sem 𝓛 ((mem R).own_at (with_both d x y) b o))
    back d x y = qed 𝓛 (‵ (part_at T full_share x b (o + at₁)) ∷ ‵ (part_at U full_share y b (o + at₂)) ∷ ‵ (beside d) ∷ raw Back ∷ []) ∵
        move ! (1 ∷ 2 ∷ []) $ fjoin ! $ move ! (1 ∷ 0 ∷ []) $ fjoin ! $ by ! (whole (with_both d x y))

    module _ (κ : Lft) (q : Share) (γ : GName) (d : R.Denot) where
      abbrev one : GName × GName → MutBor SubmissionRing
      one γs = record { ref_ptr = (b, o + at₁); ghost_name = γs.0; now = d.submissions }

      abbrev two : GName × GName → MutBor CompletionRing
      two γs = record { ref_ptr = (b, o + at₂); ghost_name = γs.1; now = d.completions }

      abbrev lent : GName × GName → Item 𝓤
      lent γs = ‵ ((MutRef (named 0) κ T).own_val (one γs) (vptr b (o + at₁) ∷ [])) ⊛ ‵ ((MutRef (named 0) κ U).own_val (two γs) (vptr b (o + at₂) ∷ [])) ⊛ ‵ (flft κ q) ⊛ ‵ (follows_both R T U γ γs.0 γs.1 (with_both d))

      abbrev Lent : GName × GName → SProp 𝓤
      Lent γs = sep 𝓤 (sem 𝓛 ((MutRef (named 0) κ T).own_val (one γs) (vptr b (o + at₁) ∷ []))) (sep 𝓤 (sem 𝓛 ((MutRef (named 0) κ U).own_val (two γs) (vptr b (o + at₂) ∷ []))) (sep 𝓤 (A.lft κ q) (sem 𝓛 (follows_both R T U γ γs.0 γs.1 (with_both d)))))

      lends : (vs : List Val) → ent 𝓤 (sep 𝓤 (sem 𝓛 ((MutRef (named 0) κ R).own_val (record { ref_ptr = (b, o); ghost_name = γ; now = d }) vs)) (A.lft κ q)) (H.⇛ (ex 𝓤 Lent))
      unfolding both_by
      lends vs =
          qed 𝓛 (‵ ((MutRef (named 0) κ R).own_val (record { ref_ptr = (b, o); ghost_name = γ; now = d }) vs) ∷ ‵ (flft κ q) ∷ []) ∵
          updating ! $ fsplit3 ! $ drop ! $ open_ref ! tt (mem R) {b = b} {o = o} $
          use1 𝓛 (‵ (parts_at full_share ms 0 (parts d) b o) ⊛ raw Back) (apart d) $ split ! $ fsplit3 ! $ move ! (2 ∷ 3 ∷ []) $ join ! $
          -- [what stays; the rings; the open borrow; obs; auth]
          move ! (3 ∷ 4 ∷ 5 ∷ 1 ∷ 2 ∷ 0 ∷ []) $ group ! 6 $
          use1 𝓛 (later (some (λ (γs : GName × GName). (‵ (fobs γs.0 (T.coded.code d.submissions)) ⊛ ‵ (fbor κ (Body (mem T) b (o + at₁) γs.0))) ⊛ (‵ (fobs γs.1 (U.coded.code d.completions)) ⊛ ‵ (fbor κ (Body (mem U) b (o + at₂) γs.1))) ⊛ ‵ (flft κ q) ⊛ ‵ (follows_both R T U γ γs.0 γs.1 (with_both d)))))
          (takes_two 𝓛 (mem R) (mem T) (mem U) (with_both d) κ q b o b (o + at₁) b (o + at₂) γ (Rest d) (back d) (R.coded.code d) (R.coded.code d) d.submissions d.completions) $
          await ! tt $ pick ! (λ γs. split3 ! $ move ! (2 ∷ []) $ split ! $ move ! (2 ∷ []) $ split ! $
          feq_i ! (List Val) (vptr b (o + at₁) ∷ []) (vptr b (o + at₁) ∷ []) refl $ fjoin3 ! $ move ! (3 ∷ []) $ split ! $
          feq_i ! (List Val) (vptr b (o + at₂) ∷ []) (vptr b (o + at₂) ∷ []) refl $ fjoin3 ! $ now ! $ show ! Lent γs $ move ! (1 ∷ 0 ∷ []) $ done !)

abbrev Refs : Lft → List RattleType
Refs κ = MutRef (named 0) κ T ∷ MutRef (named 0) κ U ∷ []

pub both_spec : {M : Type 1} → statement M
both_spec 𝓤 𝓛 𝓜 𝓡 wired S C LS LC =
    let c = f.clauses S C 𝓛 𝓜.mem 𝓡.returns in let E = f.ended S C in let h = stayed S C in let W = walk_of 𝓛 E h c in
    proved 𝓛 E h c 𝓜 𝓡 (Goes-spent_ref 𝓛 3 (0 ∷ []) tt (plain (λ _. R S C)), tt)
    (f.Key.name (args S C)) (function S C) (code.unfolded 𝓤 𝓛.H 𝓜 𝓡 wired (S, (C, tt)))
    (λ κs. (mut_vals, tt)) (λ κs. (mut_Tells (named 0) κs.0 (R S C), tt)) (λ κs qs bounds a g are.
    let κ = κs.0 in let q = qs.0 in let b = a.0.ref_ptr.0 in let o = a.0.ref_ptr.1 in let γ = a.0.ghost_name in let d = a.0.now in let vs = mut_vals a.0 in
    let y : W.Ghost = ((κs, qs, bounds, a, (vs, tt)), tt) in
    let v : Val = vstruct (vcons (vptr b (o + at₁)) (vcons (vptr b (o + at₂)) vnil)) in
    qed 𝓛 (((‵ (flft κ q) ⊛ ‵ (flft κs.1.0 qs.1.0) ⊛ ‵ (flft κs.1.1.0 qs.1.1.0) ⊛ ‵ ftrue) ⊛ ‵ ((MutRef (named 0) κ (R S C)).own_val a.0 vs) ⊛ ‵ ftrue) ∷ raw ((c κs a).requires tt) ∷ []) ∵
    split ! $ split ! $ move ! (2 ∷ []) $ split ! $ keep ! (0 ∷ 2 ∷ 3 ∷ []) $
    -- [self; the token; the other tokens]
    enter ! _ _ _ _ _ $ alloc_all ! (λ l. pass_all ! refl ((tt, tt), tt) $
    sets ! (addr ! (through ! refl (fld ! refl (stop !)))) refl (tt, tt) $
    sets ! (addr ! (through ! refl (fld ! refl (stop !)))) refl (tt, tt) $
    sets ! (agg ! (and_then ! (get ! refl) (and_then ! (get ! refl) (no_more !)))) refl (tt, (tt, (tt, tt))) $
    use2 𝓛 (later (some (lent S C LS LC 𝓛 b o κ q γ d))) (lends S C LS LC 𝓛 b o κ q γ d vs) $ await ! tt $ pick ! (λ γs. split3 ! $
    -- [the references; the token and the tie; the other tokens]
    nothing ! $ move ! (2 ∷ 0 ∷ []) $ fjoin ! $ move ! (1 ∷ 0 ∷ []) $ fjoin ! $
    feq_i ! (List Val) (v ∷ []) (v ∷ []) refl $ fjoin ! $
    fpack ! (Valss (Refs κ)) (within (shape (tuple_type (Refs κ))) (one S C LS LC 𝓛 b o κ q γ d γs, (two S C LS LC 𝓛 b o κ q γ d γs, tt)) (v ∷ [])) (vptr b (o + at₁) ∷ [], (vptr b (o + at₂) ∷ [], tt)) $
    move ! (1 ∷ []) $ split ! $ move ! (0 ∷ 3 ∷ []) $ join ! $
    -- [the tokens; the tie; the result]
    returns ! (look_at ! 0 refl) $ free_all ! refl $ keep ! (0 ∷ 2 ∷ 1 ∷ []) $
    suffices ! _ (ends_at 𝓛 E h c y v (one S C LS LC 𝓛 b o κ q γ d γs, two S C LS LC 𝓛 b o κ q γ d γs) (tt, tt) (tt, tt)) $
    move ! (1 ∷ []) $ nothing ! $ nothing ! $ fjoin ! $ join ! $ move ! (1 ∷ 0 ∷ []) $ join ! $ frame ! $ says ! (refl, refl) $ done !)))
