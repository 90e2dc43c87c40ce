use Rattle.std.proofs.Common.{◌≡◌, ◌+◌, ◌∷◌, [], ◌++◌, length, vec_len, drop, arith, sym, subst, refl, rules, w32, length-append}
use mir.Val.{SFits}
use Rattle.std.proofs.lemmas.Int.{to_z-of_z}
use Rattle.std.proofs.lemmas.List.{drop_all}
use Rattle.std.proofs.lemmas.Result.{err_from_is_err_and}
use Rattle.uring_partner.specs.declared.hostile.Scripted.TheVariants.{Turn, Post}
use Rattle.uring_model.specs.Moves.{Posted}
use Rattle.uring_partner.specs.Logs.{LogsBy, script_left, loans_held}
use Rattle.uring_partner.specs.Script.{completion_by}
use Rattle.uring_partner.proofs.Logged.{logs_posted, logs_nil, logs_side, room_filled}
use Rattle.uring_partner.proofs.Played.{item_left, plays_as, plays_more}
use Rattle.uring_partner.proofs.hostile.HostilePartner.post_all.Goals as goal

pub loop-self-init : goal.loop-self-init
loop-self-init g c = ([], logs_side _ c.args.self.now.log.items _ _ (g.met.Q.PartnerSide.moved_none c.args.side.now), (refl, refl), omega arith)

pub returns-in-Turn : goal.returns-in-Turn
returns-in-Turn g c =
    let s = c.loop-self.invariant in
    let p = c.loop-self.self in
    let count : vec_len p.script ≡ length p.script.items = search rules in
    let left = item_left p.script.items p.used c.index.result.now Turn (omega (arith, count)) c.index.ensures c.in-Turn.is in
    record { moves = (s.0, Turn ∷ drop (p.used + 1) p.script.items, s.1, plays_as _ _ s.0 _ _ _ _ (sym left) refl s.2, refl, tt) }

pub returns-then-room-eq0 : goal.returns-then-room-eq0
returns-then-room-eq0 g c =
    let s = c.loop-self.invariant in
    let p = c.loop-self.self in
    let count : vec_len p.script ≡ length p.script.items = search rules in
    let left = item_left p.script.items p.used c.index.result.now (Post c.in-Post.user_data c.in-Post.result c.in-Post.flags c.in-Post.loan) (omega (arith, count)) c.index.ensures c.in-Post.is in
    let w = g.met.Q.PartnerSide.moved_told _ _ _ _ s.1.sides in
    let told = room_filled _ _ _ s.0 c.room.result w (g.Q.Rings.fits c.loop-self.side) c.if-room-eq0.true c.room.ensures.told in
    record {
      moves = (
        s.0,
        Post c.in-Post.user_data c.in-Post.result c.in-Post.flags c.in-Post.loan ∷ drop (p.used + 1) p.script.items,
        logs_nil _ g.met.Q.PartnerSide.moved_then _ _ _ _ _ _ _ s.1 (logs_side _ p.log.items _ _ c.room.ensures.moved),
        plays_as _ _ s.0 _ _ _ _ (sym left) refl s.2,
        (left, record { known = omega (arith, s.3, c.room.ensures.grows, c.room.ensures.count, c.if-room-eq0.true); told = told }),
        tt,
      );
    }

pub returns-in_err-post_one-in-Post : goal.returns-in_err-post_one-in-Post
returns-in_err-post_one-in-Post g c =
    let s = c.loop-self.invariant in
    let f = c.in_err-post_one-in-Post.ensures in
    let same : script_left c.post_one.new.self ≡ script_left c.loop-self.self = λ i. drop (f.script.1 i) (f.script.0 i) in
    let m = logs_nil _ g.met.Q.PartnerSide.moved_then _ _ _ _ _ _ _ s.1 (logs_nil _ g.met.Q.PartnerSide.moved_then _ _ _ _ _ _ _ (logs_side _ c.loop-self.self.log.items _ _ c.room.ensures.moved) f.err.0) in
    let p = err_from_is_err_and c.from_residual.result c.from_residual.ensures.1 in
    record { moves = rw p.1 (s.0, script_left c.post_one.new.self, m, plays_as _ _ s.0 _ _ _ _ same f.err.1 s.2, tt, refl) }

pub loop-self-preserved : goal.loop-self-preserved
loop-self-preserved g c =
    let s = c.loop-self.invariant in
    let p = c.loop-self.self in
    let e = c.in_ok-post_one-in-Post.ensures in
    let x = completion_by c.in-Post.user_data c.in-Post.result c.in-Post.flags c.in-Post.loan (loans_held p) in
    let count : vec_len p.script ≡ length p.script.items = search rules in
    let left = item_left p.script.items p.used c.index.result.now (Post c.in-Post.user_data c.in-Post.result c.in-Post.flags c.in-Post.loan) (omega (arith, count)) c.index.ensures c.in-Post.is in
    let fits : SFits w32 c.in-Post.result = search rules in
    let done = subst (λ r. LogsBy g.Q.PartnerSide.moved p.log.items c.post_one.new.self.log.items c.room.new.self c.post_one.new.side (Posted (completion_by c.in-Post.user_data r c.in-Post.flags c.in-Post.loan (loans_held p)) ∷ [])) (to_z-of_z w32 c.in-Post.result fits) e.ok in
    let rest : drop (c.post_one.new.self.used + 1) c.post_one.new.self.script.items ≡ drop (p.used + 1) p.script.items = λ i. drop (e.script.1 i + 1) (e.script.0 i) in
    let more : length (s.0 ++ x ∷ []) ≡ length s.0 + 1 = simp length-append refl in (
      s.0 ++ x ∷ [],
      logs_posted _ g.met.Q.PartnerSide.moved_then _ _ _ _ _ _ s.0 x (logs_nil _ g.met.Q.PartnerSide.moved_then _ _ _ _ _ _ _ s.1 (logs_side _ p.log.items _ _ c.room.ensures.moved)) done,
      plays_as _ _ (s.0 ++ x ∷ []) _ _ _ _ rest e.held (plays_more _ _ s.0 _ _ _ _ _ _ (plays_as _ _ s.0 _ _ _ _ (sym left) refl s.2)),
      omega (arith, more, s.3, c.room.ensures.grows, e.space),
    )

pub returns : goal.returns
returns g c =
    let s = c.loop-self.invariant in
    let p = c.loop-self.self in
    let count : vec_len p.script ≡ length p.script.items = search rules in
    let none : script_left p ≡ [] = drop_all p.used p.script.items (omega (arith, count)) in
    record { moves = (s.0, [], s.1, plays_as _ _ s.0 _ _ _ _ (sym none) refl s.2, none, tt) }
