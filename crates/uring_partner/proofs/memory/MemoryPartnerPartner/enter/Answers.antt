use Rattle.std.proofs.Common.{◌≤◌, ◌≡◌, Some, [], ap, sym, refl, append-nil, inl, arith, min, ◌+◌, ◌-◌, ◌^◌, ℕ}
use Rattle.std.proofs.lemmas.Result.{err_from_is_err_and}
use Rattle.uring_partner.proofs.memory.MemoryPartnerPartner.enter.Goals as goal

rises : (before now : ℕ) → now ≡ min (before + 1) (2 ^ 64 - 1) → min (before + 1) (2 ^ 64 - 1) ≤ now
rises before now e = omega (arith, e)

pub returns-then-pass_enter-clause-cause : goal.returns-then-pass_enter-clause-cause
returns-then-pass_enter-clause-cause g c = record { later = c.fault.ensures.later; failed = λ _. rises _ _ c.fault.ensures.counted }

pub returns-in_err-try_reserve-clause-moves : goal.returns-in_err-try_reserve-clause-moves
returns-in_err-try_reserve-clause-moves g c =
    let p = err_from_is_err_and c.from_residual.result c.from_residual.ensures.1 in
    ([], record { sides = g.met.Q.PartnerSide.moved_none _; logs = ap Some (sym (append-nil c.args.self.now.log.items)); states = refl }, rw p.1 (inl refl), rw p.1 tt, rw p.1 tt)
