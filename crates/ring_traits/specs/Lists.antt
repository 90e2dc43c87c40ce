-- What a pair of rings holds, as both sides see it, and how the calls of both sides change that.
use Rattle.std.specs.Prelude.{◌≡◌, ℕ, Bool, true, false, min, ◌+◌, ◌-◌, ◌%◌, ◌≤◌, ◌^◌, List, [], ◌∷◌, ◌++◌, length, map, replicate, Option, Some, None}
use Rattle.uring_base.specs.declared.squeue.Entry.{Entry}
use Rattle.uring_base.specs.declared.buffer.Loan.{Loan}
use Rattle.uring_base.specs.declared.events.Taken.{Taken}
use Rattle.uring_base.specs.declared.events.Completion.{Completion}
use Rattle.uring_base.specs.declared.limits.TheConstants.{MAX_ENTRIES, MAX_COMPLETIONS}

pub record Lists : Type 0 where
  pub capacity : ℕ
  -- published and not yet taken, each with its size and its loan
  pub published : List Taken
  -- offered and not yet published
  pub pushed : List Taken
  pub completion_capacity : ℕ
  -- posted and not yet reaped
  pub completions : List Completion
  -- how many were reaped whose slots aren't given back
  pub held : ℕ

-- how many more entries, and completions, fit
abbrev pub free_of : Lists → ℕ
free_of l = l.capacity - (length l.published + length l.pushed)

abbrev pub room_of : Lists → ℕ
room_of l = l.completion_capacity - (length l.completions + l.held)

-- no more stands in the rings than fits, and the capacities are those of rings
pub record HasRoom (l : Lists) : Type 0 where
  pub entries : length l.published + length l.pushed ≤ l.capacity
  pub completions : length l.completions + l.held ≤ l.completion_capacity
  pub small : l.capacity ≤ MAX_ENTRIES
  pub completions_small : l.completion_capacity ≤ MAX_COMPLETIONS

pub record IsEmpty (l : Lists) : Type 0 where
  pub published : l.published ≡ []
  pub pushed : l.pushed ≡ []
  pub completions : l.completions ≡ []
  pub held : l.held ≡ 0

-- an entry that was offered, as it is taken: nothing stands behind it, and it is large where the ring makes it large
abbrev pub as_offered : Bool → Entry → Option Loan → Taken
as_offered large entry loan = record { entry = entry; big = replicate 64 0; large = large; loan = loan }

-- an entry of the small size, as it is taken
abbrev pub small : Entry → Option Loan → Taken
small entry loan = as_offered false entry loan

-- a ring may drop the two further numbers of a completion and set its size, and changes nothing else
abbrev pub IsKept : Completion → Completion → Type 0
IsKept posted kept = kept ≡ record posted { big = kept.big; large = kept.large }

-- these entries were taken from the front, and these completions posted
pub record Moves (kept : Completion → Completion) (before : Lists) (ts : List Taken) (cs : List Completion) (after : Lists) : Type 0 where
  pub taken : before.published ≡ ts ++ after.published
  pub posted : after.completions ≡ before.completions ++ map kept cs
  pub pushed : after.pushed ≡ before.pushed
  pub capacity : after.capacity ≡ before.capacity
  pub completion_capacity : after.completion_capacity ≡ before.completion_capacity
  pub held : after.held ≡ before.held

-- these entries were offered and these completions reaped
pub record Uses (before : Lists) (ts : List Taken) (cs : List Completion) (after : Lists) : Type 0 where
  pub entries : after.published ++ after.pushed ≡ (before.published ++ before.pushed) ++ ts
  pub reaped : before.completions ≡ cs ++ after.completions
  pub capacity : after.capacity ≡ before.capacity
  pub completion_capacity : after.completion_capacity ≡ before.completion_capacity

-- a relation between the lists, where they are told
abbrev pub WhereTold : (Lists → Lists → Type 0) → Option Lists → Option Lists → Type 0
WhereTold R None after = after ≡ None
WhereTold R (Some before) None = ¬ (Unit {0})
WhereTold R (Some before) (Some after) = R before after

-- a change of the lists, where they are told
abbrev pub Becomes : Option Lists → (Lists → Lists) → Option Lists → Type 0
Becomes None f after = after ≡ None
Becomes (Some before) f after = after ≡ Some (f before)

abbrev pub offered : Taken → Lists → Lists
offered t l = record l { pushed = l.pushed ++ t ∷ [] }

-- all that was offered is published, and the slots of what was reaped are given back
abbrev pub all_published : Lists → Lists
all_published l = record l { published = l.published ++ l.pushed; pushed = []; held = 0 }

-- the completion in front was reaped
pub record Reaps (c : Completion) (before after : Lists) : Type 0 where
  pub completions : before.completions ≡ c ∷ after.completions
  pub held : after.held ≡ before.held + 1
  pub published : after.published ≡ before.published
  pub pushed : after.pushed ≡ before.pushed
  pub capacity : after.capacity ≡ before.capacity
  pub completion_capacity : after.completion_capacity ≡ before.completion_capacity

-- a position of 32 bits that went on by so many
abbrev pub Advances : ℕ → ℕ → ℕ → Type 0
Advances before by after = after % 2 ^ 32 ≡ (before + by) % 2 ^ 32

-- what a word of the rings holds after a write, where they have it, and else 0
abbrev pub where_kept : Bool → ℕ → ℕ
where_kept true n = n
where_kept false n = 0

-- a counter of 32 bits after one more, which stays at its last value
abbrev pub one_more : ℕ → ℕ
one_more n = min (n + 1) (2 ^ 32 - 1)
