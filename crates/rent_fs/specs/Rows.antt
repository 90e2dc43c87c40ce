-- Worked rows.
use Rattle.std.specs.Prelude.{◌≡◌, true, [], ◌∷◌, codes, pos, negsuc, Err, Ok}
use Rattle.uring_base.specs.declared.stat.TheConstants.{S_PERMISSIONS}
use Rattle.rent_fs.specs.declared.error.FsError.TheVariants.{Os}
use Rattle.rent_fs.specs.declared.creation.Phase.TheVariants.{Up, Down}
use Rattle.rent_fs.specs.Creation.{Tries, creation_of, trials}
use Rattle.rent_fs.specs.OpenFlags.{creation_bits, default_options, flags_or_refusal}

-- `p/q/r` where nothing is there: three tries on the way up, and two on the way down
abbrev pub MakesThree : Type 0
MakesThree = trials (Tries (creation_of (codes "p/q/r") S_PERMISSIONS)) (negsuc 1 ∷ negsuc 1 ∷ pos 0 ∷ pos 0 ∷ pos 0 ∷ [])
    ≡ (5, Up) ∷ (3, Up) ∷ (1, Up) ∷ (3, Down) ∷ (5, Down) ∷ []

-- `/p//`, whose parent is the root
abbrev pub MakesBelowRoot : Type 0
MakesBelowRoot = trials (Tries (creation_of (codes "/p//") S_PERMISSIONS)) (negsuc 1 ∷ pos 0 ∷ pos 0 ∷ [])
    ≡ (4, Up) ∷ (1, Up) ∷ (4, Down) ∷ []

-- what is added to and emptied is refused with errno 22
abbrev pub AppendsAndTruncates : Type 0
AppendsAndTruncates = flags_or_refusal (creation_bits (record default_options { append = true; truncate = true })) ≡ Err (Os 22)

-- but not where the file is new: 0o300
abbrev pub AppendsToNew : Type 0
AppendsToNew = flags_or_refusal (creation_bits (record default_options { append = true; truncate = true; create_new = true })) ≡ Ok (pos 0xC0)
