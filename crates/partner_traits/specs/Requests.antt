-- The calls that a partner tells, and what a registration leaves.
use Rattle.std.specs.Prelude.{◌≡◌, Bool, true, false, List, [], ◌∷◌, ◌++◌, length, Option}
use Rattle.std.specs.Option.{option_map}
use Rattle.partner_traits.specs.declared.request.PartnerCall.{PartnerCall}
use Rattle.partner_traits.specs.declared.request.Request.{Request}

-- the calls told after one more, which counts where it was answered with a number
abbrev pub calls_after : Bool → PartnerCall → Option (List PartnerCall) → Option (List PartnerCall)
calls_after true call calls = option_map (λ kept. kept ++ call ∷ []) calls
calls_after false call calls = calls

-- a request of which at most the numbers' values were changed
pub record KeepsShape (old new : Request) : Type 0 where
  pub ring : new.ring ≡ old.ring
  pub code : new.code ≡ old.code
  pub nr : new.nr ≡ old.nr
  pub length : length new.nums ≡ length old.nums
