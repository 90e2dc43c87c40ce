-- What a hostile partner's script asks for, and what a call makes of it.
use Rattle.std.specs.Prelude.{◌≡◌, ℕ, ◌≤◌, ◌==◌, ◌++◌, Bool, true, false, ℤ, List, [], ◌∷◌, length, map, position, remove, slice_get, filter_map, Option, Some, None, IfSome, option_and_then}
use Rattle.std.specs.Option.{option_map_or}
use Rattle.uring_base.specs.declared.buffer.Loan.{Loan}
use Rattle.uring_base.specs.declared.events.Taken.{Taken}
use Rattle.uring_base.specs.declared.events.Completion.{Completion}
use Rattle.uring_model.specs.Moves.{Move, took, posted, quieted}
use Rattle.uring_model.specs.Progress.{moves_of_turn}
use Rattle.uring_model.specs.Turn.{ByPost}
use Rattle.ring_traits.specs.Lists.{Lists, room_of}
use Rattle.uring_partner.specs.declared.hostile.HostilePartner.{HostilePartner}
use Rattle.uring_partner.specs.declared.hostile.LoanPlan.{LoanPlan}
use Rattle.uring_partner.specs.declared.hostile.LoanPlan.TheVariants.{Nothing, Lent, Foreign}
use Rattle.uring_partner.specs.declared.hostile.Scripted.{Scripted}
use Rattle.uring_partner.specs.declared.hostile.Scripted.TheVariants.{Turn, Post}
use Rattle.uring_partner.specs.Logs.{script_left, loans_held}

-- the place of the first loan of this number
abbrev pub place_held : ℕ → List Loan → Option ℕ
place_held number held = position (λ loan. loan.number == number) held

-- The loan that a post of this number carries by its plan: none, the first of its number among those that are held, or one
-- of another number, from 0 and without bytes.
abbrev pub carried : ℕ → LoanPlan → List Loan → Option Loan
carried number Nothing held = None
carried number Lent held = option_and_then (slice_get held) (place_held number held)
carried number (Foreign other) held = Some (record { number = other; from = 0; buf = [] })

-- the loans that are held after such a post
abbrev pub left_held : ℕ → LoanPlan → List Loan → List Loan
left_held number Nothing held = held
left_held number Lent held = option_map_or (remove held) (place_held number held) held
left_held number (Foreign other) held = held

-- the completion of such a post, a small one
abbrev pub completion_by : ℕ → ℤ → ℕ → LoanPlan → List Loan → Completion
completion_by user_data result flags plan held = record { user_data = user_data; result = result; flags = flags; big = 0 ∷ 0 ∷ []; large = false; loan = carried user_data plan held }

-- The posts are those of as many items in front of the script, none of which is a `Turn`. With these loans held before, the
-- rest of the script and those loans are left.
abbrev pub Plays : List Scripted → List Loan → List Completion → List Scripted → List Loan → Type 0
Plays script held [] rest left = (rest ≡ script) × (left ≡ held)
Plays (Post user_data result flags plan ∷ script) held (c ∷ cs) rest left = (c ≡ completion_by user_data result flags plan held) × Plays script (left_held user_data plan held) cs rest left
Plays (Turn ∷ script) held (c ∷ cs) rest left = ¬ (Unit {0})
Plays [] held (c ∷ cs) rest left = ¬ (Unit {0})

-- so many posts fill the side: as many as were known to fit or more, and where its lists are told, all that fit
pub record IsFilled (space : ℕ) (lists : Option Lists) (posts : ℕ) : Type 0 where
  pub known : space ≤ posts
  pub told : IfSome lists (λ l. posts ≡ room_of l)

-- Where the posts of a turn end, with this rest of the script: at its end, at the next `Turn`, which is used up, or at a post
-- where the side is filled.
abbrev pub EndsAt : List Scripted → List Scripted → Type 0 → Type 0
EndsAt [] left filled = left ≡ []
EndsAt (Turn ∷ rest) left filled = left ≡ rest
EndsAt (Post user_data result flags plan ∷ rest) left filled = (left ≡ Post user_data result flags plan ∷ rest) × filled

-- the loans of these entries
abbrev pub loans_of : List Taken → List Loan
loans_of ts = filter_map (λ t. t.loan) ts

-- what was taken is held, the posts are those of the script, and this rest of it is left; nothing ended quietly
abbrev pub PlaysUpTo : List Scripted → HostilePartner → HostilePartner → List Move → Type 0
PlaysUpTo rest old new ms = Plays (script_left old) (loans_held old ++ loans_of (took ms)) (posted ms) rest (loans_held new) × (quieted ms ≡ [])

-- A whole turn: it takes at least what was known to wait and to be asked for, then posts up to where the script ends the turn
-- or the side is filled.
pub record PlaysTurn (known space : ℕ) (lists : Option Lists) (old new : HostilePartner) (ms : List Move) : Type 0 where
  pub takes : known ≤ length (took ms)
  pub moves : ms ≡ moves_of_turn (length (took ms)) (took ms) (map ByPost (posted ms))
  pub rest : List Scripted
  pub plays : PlaysUpTo rest old new ms
  pub ends : EndsAt rest (script_left new) (IsFilled space lists (length (posted ms)))

-- A call that succeeds is a whole turn; one that finds no memory stops anywhere in it.
abbrev pub PlaysCall : Bool → ℕ → ℕ → Option Lists → HostilePartner → HostilePartner → List Move → Type 0
PlaysCall true known space lists old new ms = PlaysTurn known space lists old new ms
PlaysCall false known space lists old new ms = PlaysUpTo (script_left new) old new ms
