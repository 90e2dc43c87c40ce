use Rattle.std.proofs.Common.{[], ◌++◌, sym, ap, ◌∙◌, refl, append-nil, inl, inr, Some}
use Rattle.std.proofs.lemmas.Result.{err_from_is_err_and}
use Rattle.uring_partner.specs.Logs.{loans_held, script_left}
use Rattle.uring_partner.specs.Script.{loans_of}
use Rattle.uring_partner.proofs.Logged.{logged_call, logs_side, logs_then, is_turn_by, took_count_by}
use Rattle.uring_partner.proofs.Played.{ends_as, filled_mid, plays_as, plays_to, plays_turn}
use Rattle.uring_partner.proofs.hostile.HostilePartner.run_turn.Goals as goal

pub returns-in_err-turn : goal.returns-in_err-turn
returns-in_err-turn g c =
    let b = c.in_err-turn.ensures in
    let p = err_from_is_err_and c.from_residual.result c.from_residual.ensures.1 in
    record { moves = rw p.1 ([], record { sides = b.err.sides; logs = ap Some b.err.grown; states = refl }, inl refl, tt, ((b.script, b.held ∙ sym (append-nil (loans_held c.args.self.now))), refl)) }

pub returns-in_err-take_all : goal.returns-in_err-take_all
returns-in_err-take_all g c =
    let b = c.in_ok-turn.ensures in
    let t = c.in_err-take_all.ensures in
    let p = err_from_is_err_and c.from_residual-in_err-take_all.result c.from_residual-in_err-take_all.ensures.1 in
    let m = logged_call _ g.met.Q.PartnerSide.moved_then c.args.self.now c.begin_turn.new.self c.take_all.new.self c.take_all.new.self _ _ _ _ c.in_ok-turn.turn t.moves.0 [] b.ok t.moves.1 (logs_side _ c.take_all.new.self.log.items _ _ (g.met.Q.PartnerSide.moved_none c.take_all.new.side)) in
    let plays = plays_to c.args.self.now c.take_all.new.self c.take_all.new.self c.in_ok-turn.turn t.moves.0 [] _ (t.script ∙ b.script) (t.moves.2 ∙ ap (λ ls. ls ++ loans_of t.moves.0) b.held) (refl, refl) in
    record { moves = rw p.1 (_, m, inr (is_turn_by c.args.to_submit c.in_ok-turn.turn _ t.moves.0 [] b.fits.0 b.told t.moves.3), tt, plays) }

pub returns-in_err-post_all : goal.returns-in_err-post_all
returns-in_err-post_all g c =
    let b = c.in_ok-turn.ensures in
    let t = c.in_ok-take_all.ensures in
    let s = c.in_err-post_all.ensures.moves in
    let p = err_from_is_err_and c.from_residual-in_err-post_all.result c.from_residual-in_err-post_all.ensures.1 in
    let m = logged_call _ g.met.Q.PartnerSide.moved_then c.args.self.now c.begin_turn.new.self c.take_all.new.self c.post_all.new.self _ _ _ _ c.in_ok-turn.turn t.moves.0 s.0 b.ok t.moves.1 s.2 in
    let plays = plays_to c.args.self.now c.take_all.new.self c.post_all.new.self c.in_ok-turn.turn t.moves.0 s.0 (script_left c.post_all.new.self) (t.script ∙ b.script) (t.moves.2 ∙ ap (λ ls. ls ++ loans_of t.moves.0) b.held) (plays_as _ _ s.0 _ _ _ _ s.5 refl s.3) in
    record { moves = rw p.1 (_, m, inr (is_turn_by c.args.to_submit c.in_ok-turn.turn _ t.moves.0 s.0 b.fits.0 b.told t.moves.3), tt, plays) }

pub returns : goal.returns
returns g c =
    let b = c.in_ok-turn.ensures in
    let t = c.in_ok-take_all.ensures in
    let s = c.in_ok-post_all.ensures.moves in
    let m = logged_call _ g.met.Q.PartnerSide.moved_then c.args.self.now c.begin_turn.new.self c.take_all.new.self c.post_all.new.self _ _ _ _ c.in_ok-turn.turn t.moves.0 s.0 b.ok t.moves.1 s.2 in
    let first = logs_then _ g.met.Q.PartnerSide.moved_then c.args.self.now.log.items c.begin_turn.new.self.log.items c.take_all.new.self.log.items _ _ _ _ _ b.ok t.moves.1 in
    let w = g.met.Q.PartnerSide.moved_told _ _ _ _ first.sides in
    let ends = ends_as s.1 _ _ _ (filled_mid _ _ _ _ t.moves.0 _ _ _ w (t.space ∙ b.space)) s.4 in
    let plays = plays_to c.args.self.now c.take_all.new.self c.post_all.new.self c.in_ok-turn.turn t.moves.0 s.0 s.1 (t.script ∙ b.script) (t.moves.2 ∙ ap (λ ls. ls ++ loans_of t.moves.0) b.held) s.3 in
    record { moves = (_, m, is_turn_by c.args.to_submit c.in_ok-turn.turn _ t.moves.0 s.0 b.fits.0 b.told t.moves.3, took_count_by c.in_ok-turn.turn t.moves.0 s.0 t.moves.4, plays_turn _ _ _ _ c.args.self.now c.post_all.new.self t.moves.0 s.0 s.1 t.moves.4 b.known plays ends) }
