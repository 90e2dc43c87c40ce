-- The exit status of each end of a run, and its text.
use Rattle.std.specs.Prelude.{ℕ, List, [], ◌++◌, codes, decimal}
use Rattle.uring_model.specs.declared.jobs.RunFault.{RunFault}
use Rattle.uring_model.specs.declared.jobs.RunFault.TheVariants as faults
use Rattle.uring_text.specs.declared.status.Status.{Status}
use Rattle.uring_text.specs.declared.status.Status.TheVariants as ends

abbrev pub code_of : Status → ℕ
code_of ends.Done = 0
code_of ends.Usage = 2
code_of ends.ReadFault = 3
code_of ends.TooLong = 4
code_of (ends.Script line) = 5
code_of ends.BadSize = 6
code_of (ends.BadJob job) = 7
code_of (ends.Stranger number) = 8
code_of ends.Stalled = 9
code_of ends.PartnerFault = 10
code_of ends.WriteFault = 11
code_of ends.NoMemory = 12

abbrev pub status_words : Status → List ℕ
status_words ends.Done = []
status_words ends.Usage = codes "usage"
status_words ends.ReadFault = codes "read fault"
status_words ends.TooLong = codes "too long"
status_words (ends.Script line) = codes "script line " ++ decimal line
status_words ends.BadSize = codes "bad size"
status_words (ends.BadJob job) = codes "bad job " ++ decimal job
status_words (ends.Stranger number) = codes "stranger " ++ decimal number
status_words ends.Stalled = codes "stalled"
status_words ends.PartnerFault = codes "partner fault"
status_words ends.WriteFault = codes "write fault"
status_words ends.NoMemory = codes "no memory"

-- the status of a run that was given up
abbrev pub status_of : RunFault → Status
status_of faults.BadSize = ends.BadSize
status_of (faults.BadJob job) = ends.BadJob job
status_of (faults.Stranger number) = ends.Stranger number
status_of faults.Stalled = ends.Stalled
status_of faults.PartnerFault = ends.PartnerFault
status_of faults.NoMemory = ends.NoMemory
