-- The words, as the command takes them.
use Rattle.dm_words.proofs.Names.{◌≡◌, List, [], ◌∷◌, true, false, arith, refl, ap, sym, subst, ◌∙◌, None, if◌then◌else◌, ap₂, ne_eqb, option_and_then, Option, App, HasMatchesOf, Kinds, Text, fault_of, is_simple, is_simple_and_free}
use Rattle.dm_words.proofs.Names.{subcommand_rows_of, Row, is_empty, ArgMatches, clap_on_literals, Bool, ◌&&◌, built, is_free_app, Request, demosmp, request_at, request_of, Some, Form, ℕ, bytes_eq, command_of, cond, find, form_named, form_word, forms, map, request_in}
use Rattle.std.specs.Prelude.{option_map}
use Rattle.clap.specs.Words.{subcommand_of}
use Rattle.dm_words.specs.declared.form.Form.TheVariants as form

-- no option of the command has a rule on another
is_free : is_simple_and_free demosmp ≡ true
unfolding clap_on_literals
is_free = refl

pub left_true : (a b : Bool) → (a && b) ≡ true → a ≡ true
left_true true b e = refl
left_true false b e = e

is_plain : is_simple demosmp ≡ true
is_plain = left_true (is_simple demosmp) (is_free_app (built demosmp)) is_free

-- what is asked for, by what fails
abbrev asked_by : List Text → Kinds → Option Request
asked_by words kinds = if is_empty kinds then option_and_then request_at (subcommand_of demosmp words) else None

-- what the matches of a parse ask for
pub taken : (a : App) (words : List Text) (m : ArgMatches) → a ≡ demosmp → (is_simple_and_free a ≡ true → fault_of a words ≡ []) → HasMatchesOf a words m → request_of words ≡ option_and_then request_at (subcommand_rows_of m)
taken a words m e k h =
    let free : is_simple_and_free demosmp ≡ true → fault_of demosmp words ≡ [] = subst (λ x. is_simple_and_free x ≡ true → fault_of x words ≡ []) e k in
    let has : HasMatchesOf demosmp words m = subst (λ x. HasMatchesOf x words m) e h in
    ap (asked_by words) (free is_free) ∙ ap (option_and_then request_at) (sym (has is_plain).1)

-- a step that fails
fails : (words : List Text) (kinds : Kinds) → (kinds ≡ [] → ⊥) → asked_by words kinds ≡ None
fails words [] some = absurd (some refl)
fails words (x ∷ xs) some =
    let kinds : is_empty (x ∷ xs) ≡ false = ne_eqb _ _ (λ e. omega arith) in
    ap (λ empty. if empty then option_and_then request_at (subcommand_of demosmp words) else None) kinds

-- words that are refused ask for nothing
pub refused : (a : App) (words : List Text) → a ≡ demosmp → (is_simple_and_free a ≡ true → fault_of a words ≡ [] → ⊥) → request_of words ≡ None
refused a words is k =
    let free : is_simple_and_free demosmp ≡ true → fault_of demosmp words ≡ [] → ⊥ = subst (λ x. is_simple_and_free x ≡ true → fault_of x words ≡ [] → ⊥) is k in
    fails words (fault_of demosmp words) (free is_free)

-- and are none that the command takes
pub not_taken : (a : App) (words : List Text) → a ≡ demosmp → (is_simple_and_free a ≡ true → fault_of a words ≡ [] → ⊥) → fault_of demosmp words ≡ [] → ⊥
not_taken a words is k =
    let free : is_simple_and_free demosmp ≡ true → fault_of demosmp words ≡ [] → ⊥ = subst (λ x. is_simple_and_free x ≡ true → fault_of x words ≡ [] → ⊥) is k in
    free is_free

-- what is asked for by the name and the matches of the subcommand that was used
pub used_rows : {B : Type 0} (name : B → Text) (rows : B → List Row) (o : Option B) (n : Text) (rs : List Row) → Some n ≡ option_map name o → Some rs ≡ option_map (λ (p : Text × List Row). p.1) (option_map (λ b. (name b, rows b)) o) → option_and_then request_at (option_map (λ b. (name b, rows b)) o) ≡ request_at (n, rs)
used_rows name rows None n rs e f = cc
used_rows name rows (Some b) n rs e f =
    let one : n ≡ name b = cc in
    let two : rs ≡ rows b = cc in
    ap₂ (λ (m : Text) (ms : List Row). request_at (m, ms)) (sym one) (sym two)

pub unused : {B : Type 0} (name : B → Text) (rows : B → List Row) (o : Option B) → None ≡ option_map name o → option_and_then request_at (option_map (λ b. (name b, rows b)) o) ≡ None
unused name rows None e = refl
unused name rows (Some b) e = cc

-- the command of a form has its word
has_word : (f : Form) → (command_of f).shape.name ≡ form_word f
has_word form.Run = refl
has_word form.Check = refl
has_word form.Chart = refl
has_word form.Explain = refl
has_word form.Count = refl
has_word form.Look = refl
has_word form.Explore = refl
has_word form.Drill = refl

-- what the matches of the command of a name ask for, by the form that has it
by_form : (fs : List Form) (name : List ℕ) (rows : List Row) → request_in (map command_of fs) name rows ≡ option_and_then (λ f. (command_of f).request rows) (find (λ f. bytes_eq name (form_word f)) fs)
by_form [] name rows = refl
by_form (f ∷ fs) name rows =
    ap (λ w. if bytes_eq name w then (command_of f).request rows else request_in (map command_of fs) name rows) (has_word f) ∙ by_test (bytes_eq name (form_word f)) (by_form fs name rows)
  where
    by_test : (b : Bool) → request_in (map command_of fs) name rows ≡ option_and_then (λ g. (command_of g).request rows) (find (λ g. bytes_eq name (form_word g)) fs)
        → (if b then (command_of f).request rows else request_in (map command_of fs) name rows) ≡ option_and_then (λ g. (command_of g).request rows) (cond b (Some f) (find (λ g. bytes_eq name (form_word g)) fs))
    by_test true more = refl
    by_test false more = more

pub named_request : (name word : List ℕ) (rows : List Row) (o : Option Form) → word ≡ name → o ≡ form_named word → option_and_then (λ f. (command_of f).request rows) o ≡ request_at (name, rows)
unfolding form_named
named_request name word rows o same is =
    ap (option_and_then (λ f. (command_of f).request rows)) (is ∙ ap form_named same) ∙ sym (by_form forms name rows)
