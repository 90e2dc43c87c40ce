-- What is read of the command's words is what they say.
use Rattle.std.proofs.Common.{◌≡◌, ◌≢◌, ℕ, zero, suc, ◌+◌, ◌*◌, ◌<◌, ◌≤◌, ◌∙◌, ◌⊎◌, inl, inr, min, Bool, true, false, cond, ◌&&◌, ◌||◌, List, [], ◌∷◌, length, Some, None, refl, ap, sym, subst, arith}
use Rattle.std.specs.Prelude.{Option, All, AllPairs, Contains, bytes_eq, codes, decimal, flat_map, is_none, nat_lt, option_map, slice_index_or, unwrap_or}
use Rattle.std.proofs.lemmas.Bool.{and_parts, ltb-true, lt-ltb}
use Rattle.std.proofs.lemmas.List.Elements.{All-nil, All-cons, All-head, All-tail, All-weaker, Contains-append_right}
use Rattle.std.proofs.lemmas.List.Kept.{AllPairs-cons}
use Rattle.std.proofs.lemmas.Slice.Eq.{bytes_eq-Decides}
use Rattle.uring_cli.specs.declared.words.Given.{Given}
use Rattle.uring_cli.specs.declared.words.Options.{Options}
use Rattle.uring_cli.specs.declared.words.TheConstants.{MAX_NUMBER, DEFAULT_ENTRIES, DEFAULT_IDLE}
use Rattle.uring_text.specs.Lines.{number_below}
use Rattle.uring_text.specs.Script.{◌>>=◌}
use Rattle.uring_text.specs.Laws.{NumbersAreDecimal}
use Rattle.uring_cli.specs.Words.{nothing_given, with_option, given_by, in_force, is_command, options_of}
use Rattle.uring_cli.proofs.WordLemmas.{one_option}
use Rattle.uring_cli.specs.Grammar.{Name, Sq, Cq, Start, Idle, Setting, IsCommand, name_text, setting_words, least, IsSettingInRange, IsInForce, SaysOptions}

-- ---- what a value that was found tells of the steps on the way to it

abbrev there : {A : Type 0} → A → Option A
there x = Some x

some_is : {A : Type 0} (x y : A) → there x ≡ there y → x ≡ y
some_is x y e = cc

chosen : {A : Type 0} (b : Bool) (x y z : A) → cond b x y ≡ z → ((b ≡ true) × (x ≡ z)) ⊎ ((b ≡ false) × (y ≡ z))
chosen true x y z e = inl (refl, e)
chosen false x y z e = inr (refl, e)

bound : {A B P : Type 0} (o : Option A) (f : A → Option B) (y : B) → (o >>= f) ≡ Some y → ((x : A) → o ≡ Some x → f x ≡ Some y → P) → P
bound (Some x) f y e k = k x refl e
bound None f y e k = absurd cc

mapped : {A B P : Type 0} (o : Option A) (f : A → B) (y : B) → option_map f o ≡ Some y → ((x : A) → o ≡ Some x → f x ≡ y → P) → P
mapped (Some x) f y e k = k x refl (some_is (f x) y e)
mapped None f y e k = absurd cc

same_bytes : (xs ys : List ℕ) → bytes_eq xs ys ≡ true → xs ≡ ys
same_bytes xs ys e = (bytes_eq-Decides xs ys).0 e

is_nothing : (o : Option ℕ) → is_none o ≡ true → o ≡ None
is_nothing None e = refl
is_nothing (Some n) e = absurd cc

-- ---- one option

-- what is given under a name
abbrev slot : Name → Given → Option ℕ
slot Sq given = given.sq
slot Cq given = given.cq
slot Start given = given.start
slot Idle given = given.idle

abbrev put : Name → ℕ → Given → Given
put Sq n given = record given { sq = Some n }
put Cq n given = record given { cq = Some n }
put Start n given = record given { start = Some n }
put Idle n given = record given { idle = Some n }

abbrev setting_of : Name → ℕ → Setting
setting_of name n = record { name = name; number = n }

-- what is put under one name changes nothing under another
abbrev Changes : Name → Name → ℕ → Given → Type 0
Changes a b n given = ((a ≡ b) × (slot a (put b n given) ≡ Some n)) ⊎ ((a ≢ b) × (slot a (put b n given) ≡ slot a given))

slot_put : (a b : Name) (n : ℕ) (given : Given) → Changes a b n given
slot_put Sq Sq n given = inl (refl, refl)
slot_put Sq Cq n given = inr ((λ e. cc), refl)
slot_put Sq Start n given = inr ((λ e. cc), refl)
slot_put Sq Idle n given = inr ((λ e. cc), refl)
slot_put Cq Sq n given = inr ((λ e. cc), refl)
slot_put Cq Cq n given = inl (refl, refl)
slot_put Cq Start n given = inr ((λ e. cc), refl)
slot_put Cq Idle n given = inr ((λ e. cc), refl)
slot_put Start Sq n given = inr ((λ e. cc), refl)
slot_put Start Cq n given = inr ((λ e. cc), refl)
slot_put Start Start n given = inl (refl, refl)
slot_put Start Idle n given = inr ((λ e. cc), refl)
slot_put Idle Sq n given = inr ((λ e. cc), refl)
slot_put Idle Cq n given = inr ((λ e. cc), refl)
slot_put Idle Start n given = inr ((λ e. cc), refl)
slot_put Idle Idle n given = inl (refl, refl)

slot_put_same : (name : Name) (n : ℕ) (given : Given) → slot name (put name n given) ≡ Some n
slot_put_same Sq n given = refl
slot_put_same Cq n given = refl
slot_put_same Start n given = refl
slot_put_same Idle n given = refl

slot_nothing : (name : Name) → slot name nothing_given ≡ None
slot_nothing Sq = refl
slot_nothing Cq = refl
slot_nothing Start = refl
slot_nothing Idle = refl

-- an option was added: the word is its name, nothing was given under it, and the number may stand there
record Adds (word : List ℕ) (n : ℕ) (given next : Given) : Type 0 where
  name : Name
  word_is : word ≡ name_text name
  free : slot name given ≡ None
  enough : least name ≤ n
  next_is : put name n given ≡ next

option_found : (word : List ℕ) (n : ℕ) (given next : Given) → with_option word n given ≡ Some next → Adds word n given next
unfolding with_option
option_found word n given next e =
    elim (chosen (bytes_eq word (codes "--sq") && is_none given.sq) (there (put Sq n given)) _ (Some next) e) [
      | inl p ↦ adds Sq (and_parts _ _ p.0) (omega arith) p.1
      | inr p ↦ elim (chosen (bytes_eq word (codes "--cq") && is_none given.cq) (there (put Cq n given)) _ (Some next) p.1) [
        | inl q ↦ adds Cq (and_parts _ _ q.0) (omega arith) q.1
        | inr q ↦ elim (chosen (bytes_eq word (codes "--start") && is_none given.start) (there (put Start n given)) _ (Some next) q.1) [
          | inl r ↦ adds Start (and_parts _ _ r.0) (omega arith) r.1
          | inr r ↦ elim (chosen (bytes_eq word (codes "--idle") && is_none given.idle && nat_lt 0 n) (there (put Idle n given)) None (Some next) r.1) [
            | inl s ↦
                let both = and_parts (bytes_eq word (codes "--idle") && is_none given.idle) (nat_lt 0 n) s.0 in
                let above = ltb-true 0 n both.1 in
                adds Idle (and_parts _ _ both.0) (omega arith) s.1
            | inr s ↦ absurd (no_more s.1)
          ]
        ]
      ]
    ]
  where
    adds : (name : Name) → (bytes_eq word (name_text name) ≡ true) × (is_none (slot name given) ≡ true) → least name ≤ n → there (put name n given) ≡ Some next → Adds word n given next
    adds name tests enough e = record {
      name = name;
      word_is = same_bytes word (name_text name) tests.0;
      free = is_nothing (slot name given) tests.1;
      enough = enough;
      next_is = some_is (put name n given) next e;
    }

    no_more : ◌≡◌ {A = Option Given} None (Some next) → ⊥
    no_more e = cc

option_again : (name : Name) (n : ℕ) (given : Given) → slot name given ≡ None → least name ≤ n → with_option (name_text name) n given ≡ Some (put name n given)
unfolding with_option
option_again Sq n given free enough = rw free refl
option_again Cq n given free enough = rw free refl
option_again Start n given free enough = rw free refl
option_again Idle n given free enough = let above : nat_lt 0 n ≡ true = lt-ltb 0 n (omega arith) in rw (free, above) refl

-- ---- all options, from the words

-- how a number stands under a name in the end: as it stood before, where no setting has the name, or as its setting says
abbrev Stands : Given → List Setting → Given → Name → Type 0
Stands before settings after name =
    (All (λ s. s.name ≢ name) settings × (slot name after ≡ slot name before))
    ⊎ ((n : ℕ) × (slot name before ≡ None) × (slot name after ≡ Some n) × Contains settings (setting_of name n))

record Reads (before : Given) (words : List (List ℕ)) (after : Given) : Type 0 where
  settings : List Setting
  spelled : words ≡ flat_map setting_words settings
  once : AllPairs (λ s t. s.name ≢ t.name) settings
  in_range : All IsSettingInRange settings
  stands : (name : Name) → Stands before settings after name

others_differ : (name : Name) (n : ℕ) (before after : Given) (settings : List Setting) → Stands (put name n before) settings after name → All (λ t. name ≢ t.name) settings
others_differ name n before after settings stands =
    elim stands [
      | inl p ↦ All-weaker (λ t. t.name ≢ name) (λ t. name ≢ t.name) (λ t differs e. differs (sym e)) settings p.0
      | inr p ↦ let same = slot_put_same name n before in let none = p.1 in absurd cc
    ]

stands_before : (name : Name) (n : ℕ) (before after : Given) (settings : List Setting) (other : Name) → slot name before ≡ None → Changes other name n before → Stands (put name n before) settings after other → Stands before (setting_of name n ∷ settings) after other
stands_before name n before after settings other free changes stands =
    elim changes [
      | inl same ↦ elim stands [
        | inl p ↦ inr (n, ap (λ m. slot m before) same.0 ∙ free, p.1 ∙ same.1, (zero, omega arith, ap (λ m. setting_of m n) (sym same.0)))
        | inr p ↦ let none = p.1 in let some = same.1 in absurd cc
      ]
      | inr differs ↦ elim stands [
        | inl p ↦ inl (All-cons (λ s. s.name ≢ other) (setting_of name n) settings (λ e. differs.0 (sym e)) p.0, p.1 ∙ differs.1)
        | inr p ↦ inr (p.0, sym differs.1 ∙ p.1, p.2, Contains-append_right (setting_of name n ∷ []) settings (setting_of other p.0) p.3)
      ]
    ]

reads_more : (name : Name) (n : ℕ) (before after : Given) (words : List (List ℕ)) → slot name before ≡ None → IsSettingInRange (setting_of name n) → Reads (put name n before) words after → Reads before (name_text name ∷ decimal n ∷ words) after
reads_more name n before after words free in_range more = record {
  settings = setting_of name n ∷ more.settings;
  spelled = ap (λ ws. name_text name ∷ decimal n ∷ ws) more.spelled;
  once = AllPairs-cons (λ s t. s.name ≢ t.name) (setting_of name n) more.settings (others_differ name n before after more.settings (more.stands name)) more.once;
  in_range = All-cons IsSettingInRange (setting_of name n) more.settings in_range more.in_range;
  stands = λ other. stands_before name n before after more.settings other free (slot_put other name n before) (more.stands other);
}

given_found : NumbersAreDecimal → (before after : Given) (words : List (List ℕ)) → given_by before words ≡ Some after → Reads before words after
unfolding given_by
given_found numbers before after [] e = record {
  settings = [];
  spelled = refl;
  once = λ i j d lt inside. absurd (omega arith);
  in_range = All-nil IsSettingInRange;
  stands = λ name. inl (All-nil (λ s. s.name ≢ name), ap (λ g. slot name g) (sym (some_is before after e)));
}
given_found numbers before after (word ∷ []) e = absurd cc
given_found numbers before after (word ∷ number ∷ words) e =
    bound (number_below (MAX_NUMBER + 1) number) (λ n. with_option word n before >>= λ next. given_by next words) after e (λ n is_number e1.
    bound (with_option word n before) (λ next. given_by next words) after e1 (λ next is_option e2.
    let told = (numbers (MAX_NUMBER + 1) n number (omega arith)).0 is_number in
    let added = option_found word n before next is_option in
    let more = given_found numbers next after words e2 in
    subst (λ w. Reads before (w ∷ number ∷ words) after) (sym added.word_is)
    (subst (λ t. Reads before (name_text added.name ∷ t ∷ words) after) (sym told.1)
    (reads_more added.name n before after words added.free (added.enough, omega arith) (subst (λ g. Reads g words after) (sym added.next_is) more)))))

-- the number that stands in the end, or the default
in_force_is : (name : Name) (default : ℕ) (settings : List Setting) (after : Given) → Stands nothing_given settings after name → IsInForce settings name default (unwrap_or (slot name after) default)
in_force_is name default settings after stands =
    elim stands [
      | inl p ↦ inr (p.0, ap (λ o. unwrap_or o default) (p.1 ∙ slot_nothing name))
      | inr p ↦ inl (subst (λ o. Contains settings (setting_of name (unwrap_or o default))) (sym p.2) p.3)
    ]

either_true : (a b : Bool) → (a || b) ≡ true → (a ≡ true) ⊎ (b ≡ true)
either_true true b e = inl refl
either_true false b e = inr e

command_known : (word : List ℕ) → is_command word ≡ true → IsCommand word
command_known word e =
    elim (either_true (bytes_eq word (codes "run")) (bytes_eq word (codes "std")) e) [
      | inl p ↦ inl (same_bytes word (codes "run") p)
      | inr p ↦ inr (same_bytes word (codes "std") p)
    ]

command_read : (word : List ℕ) (words : List (List ℕ)) → IsCommand word → options_of (word ∷ words) ≡ option_map in_force (given_by nothing_given words)
unfolding options_of
command_read word words (inl p) = ap (λ w. options_of (w ∷ words)) p
command_read word words (inr p) = ap (λ w. options_of (w ∷ words)) p

pub options_found : NumbersAreDecimal → (words : List (List ℕ)) (options : Options) → options_of words ≡ Some options → SaysOptions words options
unfolding options_of
options_found numbers [] options e = absurd cc
options_found numbers (word ∷ words) options e =
    elim (chosen (is_command word) (option_map in_force (given_by nothing_given words)) None (Some options) e) [
      | inr p ↦ let none = p.1 in absurd cc
      | inl p ↦ mapped (given_by nothing_given words) in_force options p.1 (λ after is_given is_options.
          let reads = given_found numbers nothing_given after words is_given in
          subst (λ (o : Options). SaysOptions (word ∷ words) o) is_options (record {
            command = word;
            known = command_known word p.0;
            settings = reads.settings;
            spelled = ap (λ ws. word ∷ ws) reads.spelled;
            once = reads.once;
            in_range = reads.in_range;
            sq = in_force_is Sq DEFAULT_ENTRIES reads.settings after (reads.stands Sq);
            cq = in_force_is Cq (min (2 * unwrap_or after.sq DEFAULT_ENTRIES) MAX_NUMBER) reads.settings after (reads.stands Cq);
            start = in_force_is Start 0 reads.settings after (reads.stands Start);
            idle = in_force_is Idle DEFAULT_IDLE reads.settings after (reads.stands Idle);
          }))
    ]

-- ---- and what is said so is read

abbrev put_all : Given → List Setting → Given
put_all given [] = given
put_all given (s ∷ settings) = put_all (put s.name s.number given) settings

once_head : (s : Setting) (settings : List Setting) → AllPairs (λ s t. s.name ≢ t.name) (s ∷ settings) → All (λ t. s.name ≢ t.name) settings
once_head s settings once = λ k d lt. once zero (suc k) d (omega arith) (omega arith)

once_tail : (s : Setting) (settings : List Setting) → AllPairs (λ s t. s.name ≢ t.name) (s ∷ settings) → AllPairs (λ s t. s.name ≢ t.name) settings
once_tail s settings once = λ i j d lt inside. once (suc i) (suc j) d (omega arith) (omega arith)

-- what is still free after one option
still_free : (s : Setting) (settings : List Setting) (before : Given) → All (λ t. s.name ≢ t.name) settings → All (λ t. slot t.name before ≡ None) settings → All (λ t. slot t.name (put s.name s.number before) ≡ None) settings
still_free s settings before differ free = λ k d lt. unchanged (slice_index_or settings k d) (differ k d lt) (free k d lt)
  where
    unchanged : (t : Setting) → s.name ≢ t.name → slot t.name before ≡ None → slot t.name (put s.name s.number before) ≡ None
    unchanged t differs none =
        elim (slot_put t.name s.name s.number before) [
          | inl same ↦ absurd (differs (sym same.0))
          | inr other ↦ other.1 ∙ none
        ]

given_again : NumbersAreDecimal → (before : Given) (settings : List Setting) → AllPairs (λ s t. s.name ≢ t.name) settings → All IsSettingInRange settings → All (λ s. slot s.name before ≡ None) settings → given_by before (flat_map setting_words settings) ≡ Some (put_all before settings)
unfolding given_by
given_again numbers before [] once in_range free = refl
given_again numbers before (s ∷ settings) once in_range free =
    let here = All-head IsSettingInRange s settings in_range in
    let is_number = (numbers (MAX_NUMBER + 1) s.number (decimal s.number) (omega arith)).1 (omega (arith, here), refl) in
    let is_option = option_again s.name s.number before (All-head (λ t. slot t.name before ≡ None) s settings free) here.0 in
    one_option before (put s.name s.number before) (name_text s.name) (decimal s.number) (flat_map setting_words settings) s.number is_number is_option
    ∙ given_again numbers (put s.name s.number before) settings (once_tail s settings once) (All-tail IsSettingInRange s settings in_range)
    (still_free s settings before (once_head s settings once) (All-tail (λ t. slot t.name before ≡ None) s settings free))

absent : (name : Name) (given : Given) (settings : List Setting) → All (λ s. s.name ≢ name) settings → slot name (put_all given settings) ≡ slot name given
absent name given [] differ = refl
absent name given (s ∷ settings) differ =
    absent name (put s.name s.number given) settings (All-tail (λ t. t.name ≢ name) s settings differ)
    ∙ elim (slot_put name s.name s.number given) as (λ _. slot name (put s.name s.number given) ≡ slot name given) [
      | inl same ↦ absurd (All-head (λ t. t.name ≢ name) s settings differ (sym same.0))
      | inr other ↦ other.1
    ]

present : (name : Name) (n : ℕ) (given : Given) (settings : List Setting) (k : ℕ) → AllPairs (λ s t. s.name ≢ t.name) settings → k < length settings → slice_index_or settings k (setting_of name n) ≡ setting_of name n → slot name (put_all given settings) ≡ Some n
present name n given [] k once inside here = absurd (omega arith)
present name n given (s ∷ settings) zero once inside here =
    let differ = subst (λ (t : Setting). All (λ u. u.name ≢ t.name) settings) here
    (All-weaker (λ t. s.name ≢ t.name) (λ t. t.name ≢ s.name) (λ t differs e. differs (sym e)) settings (once_head s settings once)) in
    absent name (put s.name s.number given) settings differ
    ∙ ap (λ (t : Setting). slot name (put t.name t.number given)) here
    ∙ slot_put_same name n given
present name n given (s ∷ settings) (suc k) once inside here = present name n (put s.name s.number given) settings k (once_tail s settings once) (omega arith) here

in_force_again : (name : Name) (default n : ℕ) (settings : List Setting) → AllPairs (λ s t. s.name ≢ t.name) settings → IsInForce settings name default n → unwrap_or (slot name (put_all nothing_given settings)) default ≡ n
in_force_again name default n settings once in_force =
    elim in_force [
      | inl given ↦ ap (λ o. unwrap_or o default) (present name n nothing_given settings given.0 once given.1 given.2)
      | inr none ↦ ap (λ o. unwrap_or o default) (absent name nothing_given settings none.0 ∙ slot_nothing name) ∙ sym none.1
    ]

made_of : (sq cq start idle : ℕ) (options : Options) → sq ≡ options.sq → cq ≡ options.cq → start ≡ options.start → idle ≡ options.idle → record { sq = sq; cq = cq; start = start; idle = idle } ≡ options
made_of sq cq start idle options a b c d = rw (a, b, c, d) refl

pub options_again : NumbersAreDecimal → (words : List (List ℕ)) (options : Options) → SaysOptions words options → options_of words ≡ Some options
unfolding options_of
options_again numbers words options says =
    let read = given_again numbers nothing_given says.settings says.once says.in_range (λ k d lt. slot_nothing (slice_index_or says.settings k d).name) in
    let after = put_all nothing_given says.settings in
    let sq = in_force_again Sq DEFAULT_ENTRIES options.sq says.settings says.once says.sq in
    let cq = ap (λ n. unwrap_or after.cq (min (2 * n) MAX_NUMBER)) sq ∙ in_force_again Cq (min (2 * options.sq) MAX_NUMBER) options.cq says.settings says.once says.cq in
    let start = in_force_again Start 0 options.start says.settings says.once says.start in
    let idle = in_force_again Idle DEFAULT_IDLE options.idle says.settings says.once says.idle in
    ap options_of says.spelled ∙ command_read says.command _ says.known ∙ ap (λ o. option_map in_force o) read ∙ ap (λ (o : Options). Some o) (made_of _ _ _ _ options sq cq start idle)
