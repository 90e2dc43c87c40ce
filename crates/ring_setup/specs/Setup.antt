-- The sizes and flags of a ring, by its settings.
use Rattle.std.specs.Prelude.{◌≡◌, ◌⊎◌, ◌<◌, ℕ, ℤ, pos, ◌*◌, Bool, true, false, Option, Some, None, min, bit_or, if◌then◌else◌}
use Rattle.uring_base.specs.declared.limits.TheConstants.{MAX_ENTRIES, MAX_COMPLETIONS}
use Rattle.uring_base.specs.FlagBits.{has_bits}
use Rattle.uring_base.specs.Sizes.{rounded_up, is_valid_size}
use Rattle.ring_setup.specs.Features.{all_features}
use Rattle.ring_setup.specs.declared.feature_flags.FeatureFlags.{FeatureFlags}
use Rattle.ring_setup.specs.declared.setup_flags.SetupFlags.{SetupFlags}
use Rattle.ring_setup.specs.declared.setup_flags.TheConstants.SetupFlags.{SQPOLL, SQ_AFF, CQSIZE, CLAMP, ATTACH_WQ}
use Rattle.ring_setup.specs.declared.settings.Settings.{Settings}
use Rattle.ring_setup.specs.declared.parameters.Parameters.{Parameters}

-- whether a word of setup flags has these
abbrev pub asks : ℕ → SetupFlags → Bool
asks word flags = has_bits word flags.0

-- whether a ring was made with these setup flags, and whether it has these features
abbrev pub is_setup : Parameters → SetupFlags → Bool
is_setup p flags = asks p.setup flags

abbrev pub is_feature : Parameters → FeatureFlags → Bool
is_feature p flags = has_bits p.features flags.0

-- how many entries, and completions, the parameters tell
abbrev pub told_entries : Parameters → ℕ
told_entries p = p.sq_entries

abbrev pub told_completions : Parameters → ℕ
told_completions p = p.cq_entries

-- the setup flags of a ring, with the one that says whether the completion count was given
abbrev pub setup_bits : ℕ → Option ℕ → ℕ
setup_bits bits None = bits
setup_bits bits (Some n) = bit_or bits CQSIZE.0

abbrev pub setup_word : Settings → ℕ
setup_word s = setup_bits s.setup s.cq_entries

-- a count, or the most that there may be, where counts are to be cut
abbrev pub cut : Settings → ℕ → ℕ → ℕ
cut s most count = if asks s.setup CLAMP then min count most else count

-- how many entries are asked for
abbrev pub asked_entries : Settings → ℕ → ℕ
asked_entries s entries = cut s MAX_ENTRIES entries

-- how many completions are asked for: twice the entries, where no count was given
abbrev pub given_or_twice : Settings → Option ℕ → ℕ → ℕ
given_or_twice s None entries = 2 * entries
given_or_twice s (Some n) entries = cut s MAX_COMPLETIONS n

abbrev pub asked_completions : Settings → ℕ → ℕ
asked_completions s entries = given_or_twice s s.cq_entries (asked_entries s entries)

abbrev pub is_buildable : Settings → ℕ → Bool
is_buildable s entries = is_valid_size (asked_entries s entries) (asked_completions s entries)

-- a count of entries that no ring has, where its completions are twice as many
abbrev pub IsInvalidCount : ℕ → Type 0
IsInvalidCount entries = (entries ≡ 0) ⊎ (MAX_ENTRIES < entries)

-- the parameters of a ring of these counts
abbrev pub parameters_of_sizes : Settings → ℕ → ℕ → Parameters
parameters_of_sizes s entries completions = record {
  setup = setup_word s;
  features = s.features;
  sq_entries = rounded_up entries;
  sq_thread_idle = s.sq_thread_idle;
  cq_entries = rounded_up completions;
}

-- the parameters of the ring of these settings
abbrev pub parameters_for : Settings → ℕ → Parameters
parameters_for s entries = parameters_of_sizes s (asked_entries s entries) (asked_completions s entries)

-- what is asked for where only these setup flags are
abbrev pub default_settings : ℕ → Settings
default_settings setup = record { setup = setup; features = all_features; cq_entries = None; start = 0; sq_thread_idle = 0; sq_thread_cpu = 0; wq_fd = pos 0; dontfork = false }

-- ---- settings of which one thing more is asked
abbrev pub with_setup : SetupFlags → Settings → Settings
with_setup flags s = record s { setup = bit_or s.setup flags.0 }

abbrev pub with_sqpoll : ℕ → Settings → Settings
with_sqpoll idle s = record s { setup = bit_or s.setup SQPOLL.0; sq_thread_idle = idle }

abbrev pub with_sqpoll_cpu : ℕ → Settings → Settings
with_sqpoll_cpu cpu s = record s { setup = bit_or s.setup SQ_AFF.0; sq_thread_cpu = cpu }

abbrev pub with_attach : ℤ → Settings → Settings
with_attach fd s = record s { setup = bit_or s.setup ATTACH_WQ.0; wq_fd = fd }

abbrev pub with_cqsize : ℕ → Settings → Settings
with_cqsize count s = record s { cq_entries = Some count }

abbrev pub with_start : ℕ → Settings → Settings
with_start start s = record s { start = start }

abbrev pub with_features : ℕ → Settings → Settings
with_features features s = record s { features = features }

abbrev pub with_dontfork : Settings → Settings
with_dontfork s = record s { dontfork = true }
