use Rattle.std.proofs.Common.{◌≡◌, ◌+◌, ◌∙◌, sym, ap, subst, arith, [], take, drop, get_or, length, Some, to_z, of_z, w32, SFits, rules}
use Rattle.std.proofs.lemmas.Int.{to_z-of_z}
use Rattle.std.proofs.Math.ListN.{set}
use Rattle.uring_model.specs.Jobs.{model_job}
use Rattle.uring_model.specs.Replay.{settle_at, place_of, mark_if}
use Rattle.uring_model.specs.Rows.{rows_in, state_in, settling_answer, place_between, told_by}
use Rattle.uring_model.proofs.Replaying.{settle_past, settle_done, settle_open_row, settle_early, settle_wrong, settle_right, settled_so, settle_behind, settled_row, counts_put}
use Rattle.uring_model.proofs.replayed.Replayed.settle_row.Goals as goal
use Rattle.uring_model.proofs.replayed.Replayed.settle_row.Goals.{then-is_some-via-then-is_some, then-is_some-via-else-is_some+then-not-may_settle}

pub returns-then-place-rows-clause-state : goal.returns-then-place-rows-clause-state
returns-then-place-rows-clause-state c = settle_past (state_in c.args.self.now) (told_by c.args.telling) c.args.number c.args.self.now.rows.items (omega (arith, ap length c.as_slice-rows.ensures.value))

pub returns-then-is_some-clause-state : goal.returns-then-is_some-clause-state
returns-then-is_some-clause-state c =
    let seen = c.as_slice-rows.result.now in
    let s = state_in c.args.self.now in
    let told = told_by c.args.telling in
    let row = c.index-rows-place.result in
    let n = c.args.number in
    let here = ap (λ l. settle_at s told (place_of [] (rows_in l) n)) c.as_slice-rows.ensures.value in
    elim c.then-is_some.branch [
      | then-is_some-via-then-is_some w ↦ settle_done s told n seen row (omega arith) c.index-rows-place.is (sym c.is_some.ensures ∙ w.if-is_some.true) ∙ here
      | then-is_some-via-else-is_some+then-not-may_settle w ↦
          settle_early s told (place_between (take n seen) row (drop (n + 1) seen)) (sym w.may_settle.ensures ∙ w.if-not-may_settle.true)
          ∙ settle_open_row s told n seen row (omega arith) c.index-rows-place.is (sym c.is_some.ensures ∙ w.if-is_some.false) ∙ here
    ]

pub returns-then-not-tells-clause-state : goal.returns-then-not-tells-clause-state
returns-then-not-tells-clause-state c =
    let seen = c.as_slice-rows.result.now in
    let s = state_in c.args.self.now in
    let told = told_by c.args.telling in
    let row = c.index-rows-place.result in
    let n = c.args.number in
    let a = settling_answer c.in_ok-settling.settling c.settle.new.files in
    let fits : SFits w32 c.in_ok-settling.settling.answered.result = search rules in
    settle_wrong s told (place_between (take n seen) row (drop (n + 1) seen)) a
    (settle_behind a s.files (take n seen) row seen (n + 1) c.in_ok-settling.ensures) (ap (told (model_job row.job)) (sym (to_z-of_z w32 a.result fits)) ∙ sym c.tells.ensures ∙ c.if-not-tells.true)
    ∙ settle_open_row s told n seen row (omega arith) c.index-rows-place.is (sym c.is_some.ensures ∙ c.if-is_some.false)
    ∙ ap (λ l. settle_at s told (place_of [] (rows_in l) n)) c.as_slice-rows.ensures.value

pub mark-requires : goal.mark-requires
mark-requires c = counts_put c.args.self.now.rows.items c.args.number c.index_mut.result.now _ c.in_ok-settling.settling.buf (omega (arith, ap length c.as_slice-rows.ensures.value)) c.index_mut.ensures.value c.requires.rows

pub returns-clause-state : goal.returns-clause-state
returns-clause-state c =
    let seen = c.as_slice-rows.result.now in
    let v = c.as_slice-rows.ensures.value in
    let s = state_in c.args.self.now in
    let told = told_by c.args.telling in
    let row = c.index-rows-place.result in
    let now = c.index_mut.result.now in
    let n = c.args.number in
    let a = settling_answer c.in_ok-settling.settling c.settle.new.files in
    let fits : SFits w32 c.in_ok-settling.settling.answered.result = search rules in
    let r = to_z w32 (of_z w32 a.result) in
    let back : r ≡ a.result = to_z-of_z w32 a.result fits in
    ap (λ s. Some s)
    (settled_so s n seen c.mark.new.rows.items row now a r (omega arith) c.index-rows-place.is (subst (λ l. now ≡ get_or l n now) (sym v) c.index_mut.ensures.value) back
    (c.mark.ensures.rows ∙ ap (λ l. mark_if a.marks (rows_in (set l n (settled_row now r a.buf)))) (sym v)))
    ∙ settle_right s told (place_between (take n seen) row (drop (n + 1) seen)) a (sym c.may_settle.ensures ∙ c.if-not-may_settle.false) (settle_behind a s.files (take n seen) row seen (n + 1) c.in_ok-settling.ensures) (ap (told (model_job row.job)) (sym back) ∙ sym c.tells.ensures ∙ c.if-not-tells.false)
    ∙ settle_open_row s told n seen row (omega arith) c.index-rows-place.is (sym c.is_some.ensures ∙ c.if-is_some.false)
    ∙ ap (λ l. settle_at s told (place_of [] (rows_in l) n)) v
