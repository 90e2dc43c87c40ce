-- What a contract sees of an engine, and what its calls do with the rings.
use Rattle.std.specs.Prelude.{◌≡◌, ℕ, ◌+◌, ◌-◌, ◌^◌, ◌≤◌, ◌||◌, Bool, min, bit_and, bit_or, refl, Option, Some, None, IfSome, Result, List, [], ◌++◌, length, map, count_by}
use Rattle.std.specs.Int.{w8, bit_not}
use Rattle.std.specs.Coded.{Coded, code_by, coded×, coded_ℕ, coded_bool, coded_list}
use Rattle.uring_base.specs.FlagBits.{bits_in, has_flags}
use Rattle.uring_base.specs.declared.flags.TheConstants.Flags.{IO_LINK, IO_HARDLINK, SKIP_SUCCESS}
use Rattle.uring_base.specs.declared.squeue.Entry.{Entry}
use Rattle.uring_base.specs.declared.buffer.Buf.{Buf}
use Rattle.uring_base.specs.declared.buffer.Loan.{Loan}
use Rattle.uring_base.specs.declared.events.Taken.{Taken}
use Rattle.uring_base.specs.declared.events.Completion.{Completion}
use Rattle.uring_base.specs.Completions.{is_final}
use Rattle.uring_ops_file.specs.Rows.{new_async_cancel, async_cancel_words}
use Rattle.ring_setup.specs.declared.parameters.Parameters.{Parameters}
use Rattle.ring_setup.specs.contracts.parameters.Parameters as parameters
use Rattle.ring_traits.specs.Lists.{Lists, Becomes, WhereTold, free_of, small}
use Rattle.rent_table.specs.Kept.{ops_code}
use Rattle.rent_table.specs.Ops.{Ops}
use Rattle.rent_table.specs.Steps.{KeptSteps, steps_code}
use Rattle.rent_engine.specs.declared.fault.EngineFault.{EngineFault}
use Rattle.rent_engine.specs.Ops.{Pumps, steps_after}

pub record EngineState (R : Type 0) : Type 0 where
  pub ring : R
  pub params : Parameters
  pub ops : Ops
  pub steps : KeptSteps
  -- whether each handle is canceled
  pub handles : List Bool
  -- how many more operations can be started with no memory, and how many more steps kept
  pub spare : ℕ
  pub step_room : ℕ

abbrev pub engine_code : {R : Type 0} → Coded R → Coded (EngineState R)
engine_code {R} coded = code_by (R × (Parameters × (Ops × (KeptSteps × (List Bool × (ℕ × ℕ)))))) (coded× coded (coded× parameters.the_row.coded (coded× ops_code (coded× steps_code (coded× (coded_list coded_bool) (coded× coded_ℕ coded_ℕ)))))) (λ e. (e.ring, (e.params, (e.ops, (e.steps, (e.handles, (e.spare, e.step_room))))))) (λ p. record { ring = p.0; params = p.1.0; ops = p.1.1.0; steps = p.1.1.1.0; handles = p.1.1.1.1.0; spare = p.1.1.1.1.1.0; step_room = p.1.1.1.1.1.1 }) (λ _. refl)

abbrev pub loan_of : ℕ → ℕ → Option Buf → Option Loan
loan_of n from None = None
loan_of n from (Some buf) = Some (record { number = n; from = from; buf = buf })

-- the flags, by which a completion is posted whatever the result
abbrev pub without_skip_success : ℕ → ℕ
without_skip_success flags = bit_and flags (bit_not w8 (bits_in SKIP_SUCCESS))

-- the flags, by which nothing is posted where the operation succeeds
abbrev pub with_skip_success : ℕ → ℕ
with_skip_success flags = bit_or flags (bits_in SKIP_SUCCESS)

-- the next entry starts when this one is done
abbrev pub links_next : Entry → Bool
links_next entry = has_flags entry.flags IO_LINK || has_flags entry.flags IO_HARDLINK

-- an entry in the size that the ring gives to what is offered
abbrev pub in_size : Bool → Taken → Taken
in_size large t = record t { large = large }

-- what is offered for an operation: its entry under its number, with its buffer lent
abbrev pub offered_entry : ℕ → Entry → ℕ → Option Buf → Taken
offered_entry n entry from buf = small (record entry { flags = without_skip_success entry.flags; user_data = n }) (loan_of n from buf)

-- what is offered for a quiet operation: its entry under its number, without a loan
abbrev pub offered_quiet : ℕ → Entry → Taken
offered_quiet n entry = small (record entry { flags = with_skip_success entry.flags; user_data = n }) None

-- what is offered for the cancel of an operation: the entry of its builder, without a loan
abbrev pub offered_cancel : ℕ → ℕ → Taken
offered_cancel target n = offered_entry n (async_cancel_words (new_async_cancel target)) 0 None

-- these entries were offered
abbrev pub all_offered : List Taken → Lists → Lists
all_offered ts l = record l { pushed = l.pushed ++ ts }

-- what was offered is published, the slots of what was reaped before are given back, and then these completions were reaped
pub record Reaped (cs : List Completion) (before after : Lists) : Type 0 where
  pub published : after.published ≡ before.published ++ before.pushed
  pub pushed : after.pushed ≡ []
  pub completions : before.completions ≡ cs ++ after.completions
  pub held : after.held ≡ length cs
  pub capacity : after.capacity ≡ before.capacity
  pub completion_capacity : after.completion_capacity ≡ before.completion_capacity

-- these entries were offered, which the ring gives its size, and nothing else was done
pub record Offered {R : Type 0} (large : Bool) (used : R → List Taken → List Completion → R → Type 0) (lists : R → Option Lists) (room waiting : R → ℕ) (before : R) (ts : List Taken) (after : R) : Type 0 where
  pub uses : used before (map (in_size large) ts) [] after
  pub told : Becomes (lists before) (all_offered (map (in_size large) ts)) (lists after)
  pub places : room before ≡ room after + length ts
  pub seen : waiting after ≡ waiting before

module _ {R : Type 0} (used : R → List Taken → List Completion → R → Type 0) (lists : R → Option Lists) (room waiting : R → ℕ) where
  -- what is offered is published, what the partner did is seen, and completions are reaped and taken one after another
  pub record Pumped (before after : R) (ops ops' : Ops) (steps steps' : KeptSteps) (end : Result (Unit {0}) EngineFault) : Type 0 where
    pub completions : List Completion
    pub uses : used before [] completions after
    pub told : WhereTold (Reaped completions) (lists before) (lists after)
    pub seen : IfSome (lists after) (λ l. (room after ≡ free_of l) × (waiting after ≡ length l.completions))
    pub places : room before ≤ room after
    pub completed : Pumps ops completions ops' end
    pub kept : steps' ≡ steps_after ops completions steps

-- how many are final, as far as 32 bits tell
abbrev pub finals_in : List Completion → ℕ
finals_in cs = min (count_by (λ c. is_final c.flags) cs) (2 ^ 32 - 1)
