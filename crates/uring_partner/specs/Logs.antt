-- What the parts of a turn do to a log, and what a hostile partner tells.
use Rattle.std.specs.Prelude.{◌≡◌, ℕ, List, ◌++◌, drop, Option, Some, None}
use Rattle.std.specs.FinMap.{insert}
use Rattle.uring_base.specs.declared.buffer.Loan.{Loan}
use Rattle.uring_base.specs.declared.events.Taken.{Taken}
use Rattle.uring_base.specs.declared.events.Completion.{Completion}
use Rattle.uring_base.specs.declared.events.LogEvent.{LogEvent}
use Rattle.partner_traits.specs.declared.request.Request.{Request}
use Rattle.uring_model.specs.Moves.{Move, took, posted, log_of}
use Rattle.uring_model.specs.Machine.{Files}
use Rattle.uring_model.specs.Partner.{PartnerState}
use Rattle.uring_model.specs.Refines.{AnyFiles, same_files}
use Rattle.partner_traits.specs.Calls.{Puts}
use Rattle.uring_partner.specs.declared.hostile.HostilePartner.{HostilePartner}
use Rattle.uring_partner.specs.declared.hostile.Scripted.{Scripted}

-- with these moves the side and the log went on
pub record LogsBy {Q : Type 0} (moved : Q → List Taken → List Completion → Q → Type 0) (before after : List LogEvent) (from to : Q) (ms : List Move) : Type 0 where
  pub sides : moved from (took ms) (posted ms) to
  pub grown : after ≡ before ++ log_of ms

abbrev pub hostile_log : HostilePartner → Option (List LogEvent)
hostile_log p = Some p.log.items

-- it tells no files
abbrev pub no_state : HostilePartner → Option PartnerState
no_state p = None

-- what is put in would stand among the files
abbrev pub put_in : ℕ → List ℕ → Files → Files
put_in number bytes files = insert files number bytes

abbrev pub puts_in : Puts same_files AnyFiles put_in
puts_in = record { seen = λ number bytes files i. insert files number bytes; plain = λ number bytes files plain. tt }

-- the items of its script that aren't used up
abbrev pub script_left : HostilePartner → List Scripted
script_left p = drop p.used p.script.items

-- the loans that it took and hasn't posted back
abbrev pub loans_held : HostilePartner → List Loan
loans_held p = p.held.items

-- a registration is answered with 0 and changes nothing
abbrev pub LeavesAll : HostilePartner → Request → ℕ → List ℕ → HostilePartner → Type 0
LeavesAll old request n left new = (n ≡ 0) × (left ≡ request.nums) × (new ≡ old)
