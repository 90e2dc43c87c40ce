-- What a memory partner tells.
use Rattle.std.specs.Prelude.{ℕ, List, Option, Some}
use Rattle.std.specs.FinMap.{insert}
use Rattle.file_tree.specs.Worlds.{AnyWorld, files_of, put_in}
use Rattle.partner_traits.specs.Calls.{Puts}
use Rattle.partner_traits.specs.declared.call.EnterCall.{EnterCall}
use Rattle.partner_traits.specs.declared.request.PartnerCall.{PartnerCall}
use Rattle.partner_traits.specs.declared.request.Request.{Request}
use Rattle.uring_base.specs.declared.events.LogEvent.{LogEvent}
use Rattle.uring_partner.specs.Served.{PartnerState}
use Rattle.uring_partner.specs.declared.memory.MemoryPartner.{MemoryPartner}
use Rattle.uring_partner.specs.KeptCalls.{enters_in, requests_in}

abbrev pub state_of : MemoryPartner → PartnerState
state_of p = record { world = p.world; pending = p.pending.items.items; tail = p.tail; choices = p.choices.items }

abbrev pub told_state : MemoryPartner → Option PartnerState
told_state p = Some (state_of p)

abbrev pub told_log : MemoryPartner → Option (List LogEvent)
told_log p = Some p.log.items

abbrev pub told_plan : MemoryPartner → List ℕ
told_plan p = p.ledger.plan.items

abbrev pub told_faults : MemoryPartner → ℕ
told_faults p = p.ledger.faults

-- the error number of its last fault, and 0 before the first
abbrev pub told_errno : MemoryPartner → ℕ
told_errno p = p.ledger.errno

abbrev pub told_calls : MemoryPartner → Option (List PartnerCall)
told_calls p = Some p.ledger.calls.items

-- how many personalities it gave out
abbrev pub given_by : MemoryPartner → ℕ
given_by p = p.ledger.personalities

-- a file put in is seen among the files
abbrev pub puts_in : Puts files_of AnyWorld put_in
puts_in = record { seen = λ number bytes w i. insert w.files number bytes; plain = λ number bytes w plain. tt }

-- the enters, and the registrations, that it answered with a number, in order
abbrev pub entered_of : MemoryPartner → List EnterCall
entered_of p = enters_in p.ledger.calls.items

abbrev pub requested_of : MemoryPartner → List Request
requested_of p = requests_in p.ledger.calls.items
