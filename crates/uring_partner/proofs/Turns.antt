-- The settlings of a turn, one after another, and the moves of a call.
use Rattle.std.specs.Prelude.{◌≡◌, ℕ, ◌+◌, ◌-◌, ◌≤◌, zero, suc, min, Bool, true, false, if◌then◌else◌, nat_eq, List, [], ◌∷◌, ◌++◌, length, map, Option, Some, None, IfSome, refl}
use Rattle.std.proofs.lemmas.Bool.Decides.{nat_tests}
use Rattle.std.proofs.lemmas.List.{map-append, length-map}
use Rattle.std.proofs.Common.{ap, sym, subst, ◌∙◌, append_assoc, append-nil, arith, length-append}
use Rattle.uring_base.specs.declared.events.Taken.{Taken}
use Rattle.uring_base.specs.declared.events.Completion.{Completion}
use Rattle.uring_model.specs.Chosen.{choice, stops}
use Rattle.uring_model.specs.Moves.{Move, Turned, Took, took, posted, log_of}
use Rattle.uring_partner.specs.Served.{PartnerState, world_machine, cursors, named, answer_to, completion_of, is_quiet_end, after_take, Steps}
use Rattle.uring_partner.specs.Served.{EntryEnd, ByPost, Quietly, ended, posts_of, room_after, ends_turn, Outturn, ending, stays, settle_then, settle_turn, settle_all, take_all}
use Rattle.uring_model.proofs.Joins.{took-append, posted-append, took_turn, posted_turn, log-append}
use Rattle.uring_model.proofs.Progress.{one_left}
use Rattle.ring_traits.specs.Lists.{Lists, Moves, WhereTold, HasRoom, room_of}
use Rattle.uring_partner.specs.declared.memory.MemoryPartner.{MemoryPartner}
use Rattle.partner_traits.specs.Calls.{Enters, IsTurn, IsFullTurn}
use Rattle.uring_model.specs.Progress.{turns}
use Rattle.uring_partner.specs.Parts.{GoesBy}
use Rattle.uring_partner.specs.Settling.{SettlesAs, SettlesAll}
use Rattle.uring_partner.specs.Told.{state_of, told_state, told_log}

-- settlings

abbrev pub after_ends : List EntryEnd → Outturn → Outturn
after_ends es t = record { ends = es ++ t.ends; state = t.state }

-- the room that is looked for and isn't taken: none at a post, one at a quiet end
abbrev pub spare_of : EntryEnd → ℕ
spare_of (ByPost c) = 0
spare_of (Quietly n) = 1

-- So entries ended from a to b, and none of these ends was the turn's last. `spare` is the room that the last of them looked for
-- and didn't take: without it the entry wouldn't have settled.
pub record Runs (es : List EntryEnd) (spare : ℕ) (a b : PartnerState) : Type 0 where
  pub few : spare ≤ 1
  pub rest : (left room : ℕ) → spare ≤ room → settle_turn (length es + left) (length (posts_of es) + room) a ≡ after_ends es (settle_turn left room b)
  pub steps : (ms : List Move) (d : PartnerState) → Steps false b ms d → Steps false a (map ended es ++ ms) d
  pub count : length a.pending ≡ length es + length b.pending

pub runs_first : (a : PartnerState) → Runs [] 0 a a
runs_first a = record {
  few = omega arith;
  rest = λ left room le. let e : 0 + left ≡ left = omega arith in let f : 0 + room ≡ room = omega arith in λ i. settle_turn (e i) (f i) a;
  steps = λ ms d h. h;
  count = omega arith;
}

-- the named entry's end, and then the rest of the turn

ends_then : (a b : PartnerState) (e : EntryEnd) (go : ℕ → PartnerState → Outturn) (room : ℕ) → SettlesAs a e b
    → settle_then a go room (named (choice a.choices) (cursors a)) ≡ ending e (if ends_turn (stops (choice a.choices)) e then stays b else go (room_after room e) b)
ends_then a b e go room s =
    ap (settle_then a go room) s.chosen
    ∙ (λ i. ending (sym s.ends i) (if ends_turn (stops (choice a.choices)) (sym s.ends i) then stays (sym s.state i) else go (room_after room (sym s.ends i)) (sym s.state i)))

goes_on : (stop : Bool) (x y : Outturn) → stop ≡ false → (if stop then x else y) ≡ y
goes_on stop x y e = rw e refl

is_over : (stop : Bool) (x y : Outturn) → stop ≡ true → (if stop then x else y) ≡ x
is_over stop x y e = rw e refl

by_post : (quiet : Bool) (n : ℕ) (k c : Completion) → ByPost c ≡ (if quiet then Quietly n else ByPost k) → (quiet ≡ false) × (c ≡ k)
by_post true n k c e = absurd (cc)
by_post false n k c e = (refl, cc)

quietly : (quiet : Bool) (n m : ℕ) (k : Completion) → Quietly m ≡ (if quiet then Quietly n else ByPost k) → (quiet ≡ true) × (m ≡ n)
quietly true n m k e = (refl, cc)
quietly false n m k e = absurd (cc)

-- an end is a step
step_on : (a b d : PartnerState) (e : EntryEnd) (ms : List Move) → SettlesAs a e b → Steps (ends_turn (stops (choice a.choices)) e) b ms d → Steps false a (ended e ∷ ms) d
step_on a b d (ByPost c) ms s h =
    let p = by_post (is_quiet_end a.world s.cursor) s.cursor.item.taken.entry.user_data (completion_of s.cursor.item.taken (answer_to a.world s.cursor)) c s.ends in
    (refl, record { cursor = s.cursor; chosen = s.chosen; posts = p.0; completion = p.1 }, subst (λ x. Steps (stops (choice a.choices)) x ms d) s.state h)
step_on a b d (Quietly n) ms s h =
    let p = quietly (is_quiet_end a.world s.cursor) s.cursor.item.taken.entry.user_data n (completion_of s.cursor.item.taken (answer_to a.world s.cursor)) s.ends in
    (refl, record { cursor = s.cursor; chosen = s.chosen; quiet = p.0; number = p.1 }, subst (λ x. Steps false x ms d) s.state h)

-- one end more

pub posts_more : (es : List EntryEnd) (e : EntryEnd) → length (posts_of (es ++ e ∷ [])) ≡ length (posts_of es) + length (posts_of (e ∷ []))
posts_more [] e = omega arith
posts_more (ByPost c ∷ es) e = omega (arith, posts_more es e)
posts_more (Quietly n ∷ es) e = posts_more es e

pub posts_or_spare : (e : EntryEnd) → length (posts_of (e ∷ [])) + spare_of e ≡ 1
posts_or_spare (ByPost c) = omega arith
posts_or_spare (Quietly n) = omega arith

pub room_needed : (es : List EntryEnd) (e : EntryEnd) → length (posts_of (es ++ e ∷ [])) + spare_of e ≡ length (posts_of es) + 1
room_needed es e = omega (arith, posts_more es e, posts_or_spare e)

-- the room before an end that leaves this much
room_before : (e : EntryEnd) (room : ℕ) → spare_of e ≤ room → (r : ℕ) × (room_after r e ≡ room) × (length (posts_of (e ∷ [])) + room ≡ suc r)
room_before (ByPost c) room le = (room, refl, omega arith)
room_before (Quietly n) zero le = absurd (omega arith)
room_before (Quietly n) (suc room) le = (room, refl, omega arith)

few_spare : (e : EntryEnd) → spare_of e ≤ 1
few_spare (ByPost c) = omega arith
few_spare (Quietly n) = omega arith

pub pending_less : (a b : PartnerState) (e : EntryEnd) → SettlesAs a e b → length b.pending + 1 ≡ length a.pending
pending_less a b e s = ap (λ x. length x.pending + 1) s.state ∙ one_left world_machine a s.cursor s.chosen

-- what is settled so far, one entry more, and then the rest
runs_then : (es : List EntryEnd) (spare : ℕ) (a b d : PartnerState) (e : EntryEnd) (left room : ℕ) → Runs es spare a b → SettlesAs b e d → spare_of e ≤ room
    → settle_turn (length (es ++ e ∷ []) + left) (length (posts_of (es ++ e ∷ [])) + room) a
    ≡ record { ends = es ++ e ∷ (if ends_turn (stops (choice b.choices)) e then stays d else settle_turn left room d).ends; state = (if ends_turn (stops (choice b.choices)) e then stays d else settle_turn left room d).state }
runs_then es spare a b d e left room g s le =
    let r = room_before e room le in
    let one : length (es ++ e ∷ []) + left ≡ length es + suc left = simp length-append (omega arith) in
    let other : length (posts_of (es ++ e ∷ [])) + room ≡ length (posts_of es) + suc r.0 = omega (arith, posts_more es e, r.2) in
    (λ i. settle_turn (one i) (other i) a) ∙ g.rest (suc left) (suc r.0) (omega (arith, g.few))
    ∙ ap (after_ends es) (ends_then b d e (settle_turn left) r.0 s)
    ∙ (λ i. after_ends es (ending e (if ends_turn (stops (choice b.choices)) e then stays d else settle_turn left (r.1 i) d)))

pub runs_on : (es : List EntryEnd) (spare : ℕ) (a b d : PartnerState) (e : EntryEnd) → Runs es spare a b → SettlesAs b e d → ends_turn (stops (choice b.choices)) e ≡ false → Runs (es ++ e ∷ []) (spare_of e) a d
runs_on es spare a b d e g s on = record {
  few = few_spare e;
  rest = λ left room le.
      runs_then es spare a b d e left room g s le
      ∙ ap (λ x. after_ends es (ending e x)) (goes_on (ends_turn (stops (choice b.choices)) e) (stays d) (settle_turn left room d) on)
      ∙ (λ i. record { ends = sym (append_assoc es (e ∷ []) (settle_turn left room d).ends) i; state = (settle_turn left room d).state });
  steps = λ ms f h.
      subst (λ l. Steps false a l f) (sym (ap (λ l. l ++ ms) (map-append ended es (e ∷ [])) ∙ append_assoc (map ended es) (ended e ∷ []) ms))
      (g.steps (ended e ∷ ms) f (step_on b d f e ms s (subst (λ x. Steps x d ms f) (sym on) h)));
  count = let more : length (es ++ e ∷ []) ≡ length es + 1 = simp length-append refl in omega (arith, more, g.count, pending_less b d e s);
}

-- the steps so far, and those with the end that was the turn's last

pub runs_steps : (es : List EntryEnd) (spare : ℕ) (a b : PartnerState) → Runs es spare a b → Steps false a (map ended es) b
runs_steps es spare a b g = subst (λ l. Steps false a l b) (append-nil (map ended es)) (g.steps [] b refl)

pub over_steps : (es : List EntryEnd) (spare : ℕ) (a b d : PartnerState) (e : EntryEnd) → Runs es spare a b → SettlesAs b e d → Steps false a (map ended (es ++ e ∷ [])) d
over_steps es spare a b d e g s = subst (λ l. Steps false a l d) (sym (map-append ended es (e ∷ []))) (g.steps (ended e ∷ []) d (step_on b d d e [] s refl))

-- Nothing more settles: nothing is pending, no room is left, or a post at an even choice ended the turn.

stays_none : (left : ℕ) (a : PartnerState) → settle_turn left 0 a ≡ stays a
stays_none zero a = refl
stays_none (suc left) a = refl

pub all_ended : (es : List EntryEnd) (spare : ℕ) (a b : PartnerState) (room : ℕ) → Runs es spare a b → length b.pending ≡ 0 → length (posts_of es) + spare ≤ room → settle_all room a ≡ record { ends = es; state = b }
all_ended es spare a b room g none le =
    let one : length a.pending ≡ length es + 0 = omega (arith, g.count, none) in
    let other : room ≡ length (posts_of es) + (room - length (posts_of es)) = omega arith in
    (λ i. settle_turn (one i) (other i) a) ∙ g.rest 0 (room - length (posts_of es)) (omega arith) ∙ (λ i. record { ends = append-nil es i; state = b })

pub no_room : (es : List EntryEnd) (spare : ℕ) (a b : PartnerState) → Runs es spare a b → spare ≡ 0 → settle_all (length (posts_of es)) a ≡ record { ends = es; state = b }
no_room es spare a b g none =
    let other : length (posts_of es) ≡ length (posts_of es) + 0 = omega arith in
    (λ i. settle_turn (g.count i) (other i) a) ∙ g.rest (length b.pending) 0 (omega (arith, none))
    ∙ ap (after_ends es) (stays_none (length b.pending) b) ∙ (λ i. record { ends = append-nil es i; state = b })

pub turn_over : (es : List EntryEnd) (spare : ℕ) (a b d : PartnerState) (e : EntryEnd) (room : ℕ) → Runs es spare a b → SettlesAs b e d → ends_turn (stops (choice b.choices)) e ≡ true → length (posts_of es) + 1 ≤ room
    → settle_all room a ≡ record { ends = es ++ e ∷ []; state = d }
turn_over es spare a b d e room g s over le =
    let more : length (es ++ e ∷ []) ≡ length es + 1 = simp length-append refl in
    let one : length a.pending ≡ length (es ++ e ∷ []) + length d.pending = omega (arith, more, g.count, pending_less b d e s) in
    let other : room ≡ length (posts_of (es ++ e ∷ [])) + (room - length (posts_of (es ++ e ∷ []))) = omega (arith, room_needed es e) in
    (λ i. settle_turn (one i) (other i) a) ∙ runs_then es spare a b d e (length d.pending) (room - length (posts_of (es ++ e ∷ []))) g s (omega (arith, room_needed es e))
    ∙ ap (λ x. after_ends es (ending e x)) (is_over (ends_turn (stops (choice b.choices)) e) (stays d) (settle_turn (length d.pending) (room - length (posts_of (es ++ e ∷ []))) d) over)

pub zero_if : (n : ℕ) → nat_eq n 0 ≡ true → n ≡ 0
zero_if n e = grind (arith, nat_tests)

-- the room, where lists are told

abbrev pub IsRoom : ℕ → Option Lists → Type 0
IsRoom n x = IfSome x (λ l. n ≡ room_of l)

abbrev pub Fits : Option Lists → Type 0
Fits x = IfSome x HasRoom

abbrev pub WithRoom : ℕ → Option Lists → Type 0
WithRoom n x = IfSome x (λ l. n ≤ room_of l)

counted : (kept : Completion → Completion) (l m : Lists) (ts : List Taken) (cs : List Completion) → Moves kept l ts cs m → length m.completions ≡ length l.completions + length cs
counted kept l m ts cs h = let e : length (l.completions ++ map kept cs) ≡ length l.completions + length cs = simp (length-append, length-map) refl in ap length h.posted ∙ e

-- the room before some posts, by the room that is left
pub room_gone : (kept : Completion → Completion) (x y : Option Lists) (ts : List Taken) (cs : List Completion) (n : ℕ) → WhereTold (λ l m. Moves kept l ts cs m) x y → Fits y → IsRoom n y → IsRoom (length cs + n) x
room_gone kept None y ts cs n w f z = tt
room_gone kept (Some l) None ts cs n w f z = absurd (w tt)
room_gone kept (Some l) (Some m) ts cs n w f z = omega (arith, counted kept l m ts cs w, f.completions, w.held, w.completion_capacity, z)

pub some_room : (n m : ℕ) (x : Option Lists) → m ≤ n → IsRoom n x → WithRoom m x
some_room n m None le h = tt
some_room n m (Some l) le h = omega (arith, h)

pub same_room : (n m : ℕ) (x : Option Lists) → n ≡ m → IsRoom n x → IsRoom m x
same_room n m x e h = subst (λ k. IsRoom k x) e h

pub no_need : (x : Option Lists) → WithRoom 0 x
no_need None = tt
no_need (Some l) = omega arith

pub posted_ends : (es : List EntryEnd) → posted (map ended es) ≡ posts_of es
posted_ends es = posted_turn [] es

-- the same of the moves of a turn
pub room_gone_by : (kept : Completion → Completion) (x y : Option Lists) (es : List EntryEnd) (n : ℕ) → WhereTold (λ l m. Moves kept l (took (map ended es)) (posted (map ended es)) m) x y → Fits y → IsRoom n y → IsRoom (length (posts_of es) + n) x
room_gone_by kept x y es n w f h = subst (λ cs. IsRoom (length cs + n) x) (posted_ends es) (room_gone kept x y (took (map ended es)) (posted (map ended es)) n w f h)

-- what holds of the room after takes alone held of it before
pub room_kept : (kept : Completion → Completion) (x y : Option Lists) (ts : List Taken) (cs : List Completion) (P : ℕ → Type 0) → WhereTold (λ l m. Moves kept l ts cs m) x y → cs ≡ [] → IfSome y (λ l. P (room_of l)) → IfSome x (λ l. P (room_of l))
room_kept kept None y ts cs P w e h = tt
room_kept kept (Some l) None ts cs P w e h = absurd (w tt)
room_kept kept (Some l) (Some m) ts cs P w e h =
    let same : room_of m ≡ room_of l = omega (arith, counted kept l m ts cs w, ap length e, w.held, w.completion_capacity) in
    subst P same h

pub posted_takes : (ts : List Taken) → posted (map Took ts) ≡ []
posted_takes [] = refl
posted_takes (t ∷ ts) = posted_takes ts

-- what settles behind the takes of a turn, by the room that was there before them
pub settles_mid : (kept : Completion → Completion) (x y : Option Lists) (us ts : List Taken) (space before : ℕ) (b a : PartnerState) (es : List EntryEnd) → WhereTold (λ l m. Moves kept l us (posted (map Took ts)) m) x y → before ≡ space → b ≡ a
    → SettlesAll space y b es → SettlesAll before x a es
settles_mid kept x y us ts space before b a es w same e h = record {
  room = h.room;
  fits = omega (arith, same, h.fits);
  ends = h.ends ∙ ap (λ z. (settle_all h.room z).ends) e;
  told = room_kept kept x y us (posted (map Took ts)) (λ r. settle_all h.room a ≡ settle_all r a) w (posted_takes ts) (subst (λ z. IfSome y (λ l. settle_all h.room z ≡ settle_all (room_of l) z)) e h.told);
}

-- with all the room, where that is the room
pub settles_exactly : (space n : ℕ) (x : Option Lists) (a b : PartnerState) (es : List EntryEnd) → space ≤ n → settle_all n a ≡ record { ends = es; state = b } → IsRoom n x → SettlesAll space x a es
settles_exactly space n None a b es le e h = record { room = n; fits = le; ends = ap (λ t. t.ends) (sym e); told = tt }
settles_exactly space n (Some l) a b es le e h = record { room = n; fits = le; ends = ap (λ t. t.ends) (sym e); told = ap (λ k. settle_all k a) h }

-- with any room that isn't below the least
pub settles_from : (space least : ℕ) (x : Option Lists) (a b : PartnerState) (es : List EntryEnd) → ((room : ℕ) → least ≤ room → settle_all room a ≡ record { ends = es; state = b }) → WithRoom least x → SettlesAll space x a es
settles_from space least None a b es f h = record { room = least + space; fits = omega arith; ends = ap (λ t. t.ends) (sym (f (least + space) (omega arith))); told = tt }
settles_from space least (Some l) a b es f h = record { room = least + space; fits = omega arith; ends = ap (λ t. t.ends) (sym (f (least + space) (omega arith))); told = f (least + space) (omega arith) ∙ sym (f (room_of l) h) }

-- moves of one part after another

abbrev pub Joins : {Q : Type 0} → (Q → List Taken → List Completion → Q → Type 0) → Type 0
Joins {Q = Q} moved = (a b c : Q) (ts us : List Taken) (cs ds : List Completion) → moved a ts cs b → moved b us ds c → moved a (ts ++ us) (cs ++ ds) c

pub goes_then : {Q : Type 0} (moved : Q → List Taken → List Completion → Q → Type 0) → Joins moved
    → (a b c : MemoryPartner) (s t u : Q) (ms ns : List Move) → GoesBy moved a b s t ms → GoesBy moved b c t u ns → GoesBy moved a c s u (ms ++ ns)
goes_then moved joins a b c s t u ms ns p q = record {
  sides = rw (took-append ms ns, posted-append ms ns) (joins s t u (took ms) (took ns) (posted ms) (posted ns) p.sides q.sides);
  grown = q.grown ∙ ap (λ l. l ++ log_of ns) p.grown ∙ append_assoc a.log.items (log_of ms) (log_of ns) ∙ ap (λ l. a.log.items ++ l) (sym (log-append ms ns));
  ledger = q.ledger ∙ p.ledger;
}

pub goes_side : {Q : Type 0} (moved : Q → List Taken → List Completion → Q → Type 0) (a : MemoryPartner) (s t : Q) → moved s [] [] t → GoesBy moved a a s t []
goes_side moved a s t m = record { sides = m; grown = sym (append-nil a.log.items); ledger = refl }

pub goes_end : {Q : Type 0} (moved : Q → List Taken → List Completion → Q → Type 0) → ((a : Q) → moved a [] [] a) → (a : MemoryPartner) (s : Q) → GoesBy moved a a s s []
goes_end moved none a s = goes_side moved a s s (none s)

pub goes_nil : {Q : Type 0} (moved : Q → List Taken → List Completion → Q → Type 0) → Joins moved
    → (a b c : MemoryPartner) (s t u : Q) (ms : List Move) → GoesBy moved a b s t ms → GoesBy moved b c t u [] → GoesBy moved a c s u ms
goes_nil moved joins a b c s t u ms p q = subst (λ ns. GoesBy moved a c s u ns) (append-nil ms) (goes_then moved joins a b c s t u ms [] p q)

pub goes_took : {Q : Type 0} (moved : Q → List Taken → List Completion → Q → Type 0) → Joins moved
    → (a b c : MemoryPartner) (s t u : Q) (ts : List Taken) (x : Taken) → GoesBy moved a b s t (map Took ts) → GoesBy moved b c t u (Took x ∷ []) → GoesBy moved a c s u (map Took (ts ++ x ∷ []))
goes_took moved joins a b c s t u ts x p q = rw map-append (goes_then moved joins a b c s t u (map Took ts) (Took x ∷ []) p q)

pub goes_ended : {Q : Type 0} (moved : Q → List Taken → List Completion → Q → Type 0) → Joins moved
    → (a b c : MemoryPartner) (s t u : Q) (es : List EntryEnd) (e : EntryEnd) → GoesBy moved a b s t (map ended es) → GoesBy moved b c t u (ended e ∷ []) → GoesBy moved a c s u (map ended (es ++ e ∷ []))
goes_ended moved joins a b c s t u es e p q = rw map-append (goes_then moved joins a b c s t u (map ended es) (ended e ∷ []) p q)

turns_ends : (es : List EntryEnd) → turns (map ended es) ≡ 0
turns_ends [] = refl
turns_ends (ByPost c ∷ es) = turns_ends es
turns_ends (Quietly n ∷ es) = turns_ends es

pub turns_rest : (ts : List Taken) (es : List EntryEnd) → turns (map Took ts ++ map ended es) ≡ 0
turns_rest [] es = turns_ends es
turns_rest (t ∷ ts) es = turns_rest ts es

pub is_turn : (to_submit p : ℕ) (lists : Option Lists) (ts : List Taken) (es : List EntryEnd) → p ≤ to_submit → IfSome lists (λ l. p ≡ min to_submit (length l.published)) → length ts ≤ p → IsTurn to_submit lists (Turned p ∷ (map Took ts ++ map ended es))
is_turn to_submit p lists ts es fits told few = record {
  p = p;
  fits = fits;
  told = told;
  rest = map Took ts ++ map ended es;
  moves = refl;
  one = turns_rest ts es;
  few = subst (λ l. length l ≤ p) (sym (took_turn ts es)) few;
}

takes_first : (a c : PartnerState) (ts : List Taken) (ms : List Move) → Steps false (take_all a ts) ms c → Steps false a (map Took ts ++ ms) c
takes_first a c [] ms h = h
takes_first a c (t ∷ ts) ms h = (refl, takes_first (after_take a t) c ts ms h)

-- a call that began, took and settled
pub entered : {Q : Type 0} (moved : Q → List Taken → List Completion → Q → Type 0) → Joins moved → (a b c d : MemoryPartner) (s t u v : Q) (p : ℕ) (ts : List Taken) (es : List EntryEnd)
    → GoesBy moved a b s t (Turned p ∷ []) → state_of b ≡ state_of a → GoesBy moved b c t u (map Took ts) → state_of c ≡ take_all (state_of b) ts
    → GoesBy moved c d u v (map ended es) → Steps false (state_of c) (map ended es) (state_of d)
    → Enters world_machine told_log told_state moved a d s v (Turned p ∷ (map Took ts ++ map ended es))
entered moved joins a b c d s t u v p ts es g e h f k steps =
    let all = goes_then moved joins a b d s t v (Turned p ∷ []) (map Took ts ++ map ended es) g (goes_then moved joins b c d t u v (map Took ts) (map ended es) h k) in
    record {
      sides = all.sides;
      logs = ap Some all.grown;
      states = takes_first (state_of a) (state_of d) ts (map ended es) (subst (λ x. Steps false x (map ended es) (state_of d)) (f ∙ ap (λ x. take_all x ts) e) steps);
    }

-- a call that took all of its number, and settled all
pub is_full : (a : PartnerState) (x : Option Lists) (known space p : ℕ) (ts : List Taken) (es : List EntryEnd) → length ts ≡ p → known ≤ p → SettlesAll space x (take_all a ts) es → IsFullTurn world_machine (Some a) known space x (Turned p ∷ (map Took ts ++ map ended es))
is_full a x known space p ts es e k h = record {
  ts = ts;
  room = h.room;
  takes = omega (arith, e, k);
  fits = h.fits;
  moves = λ i. Turned (sym e i) ∷ (map Took ts ++ map ended (h.ends i));
  told = h.told;
}

pub took_count : (p : ℕ) (ts : List Taken) (es : List EntryEnd) → length ts ≡ p → p ≡ length (took (Turned p ∷ (map Took ts ++ map ended es)))
took_count p ts es e = sym e ∙ ap length (sym (took_turn ts es))
