-- The calls that a memory partner keeps, by their kind.
use Rattle.std.specs.Prelude.{List, Option, Some, None, filter_map}
use Rattle.partner_traits.specs.declared.call.EnterCall.{EnterCall}
use Rattle.partner_traits.specs.declared.request.PartnerCall.{PartnerCall}
use Rattle.partner_traits.specs.declared.request.PartnerCall.TheVariants.{Entered, Requested}
use Rattle.partner_traits.specs.declared.request.Request.{Request}

abbrev pub as_enter : PartnerCall → Option EnterCall
as_enter (Entered call) = Some call
as_enter (Requested request) = None

abbrev pub as_request : PartnerCall → Option Request
as_request (Entered call) = None
as_request (Requested request) = Some request

-- the enters, and the registrations, in order
abbrev pub enters_in : List PartnerCall → List EnterCall
enters_in calls = filter_map as_enter calls

abbrev pub requests_in : List PartnerCall → List Request
requests_in calls = filter_map as_request calls
