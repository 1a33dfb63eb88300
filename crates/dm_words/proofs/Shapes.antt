-- Commands that take one option after another, and what a command line becomes that takes one in.
use Rattle.dm_words.proofs.Names.{ℕ, ◌≡◌, ◌<◌, ◌≤◌, ◌+◌, ◌||◌, Bool, false, List, [], length, map, get_or, sym, subst, ap, ap₂, ◌∙◌, App, app_of, with_rule, with_subcommand, HasShape, AddsArg, Rule, TheArg, TheCommand, HasOptions, IsOption}
use Rattle.dm_words.proofs.Names.{at_drop_all, at_drop_more, drop, form_shape, map_more, take_all, take, new_shape, CommandForm, CommandOption, option_rule, with_options, with_shapes}

neither : (a b : Bool) → a ≡ false → b ≡ false → (a || b) ≡ false
neither a b x y = ap₂ (λ p q. p || q) x y

-- one more option of its own
has_more : (a : App) (rule : Rule) (old new : TheCommand) (o : TheArg) → IsOption rule o → HasOptions a old → AddsArg old o new → HasOptions (with_rule a rule) new
has_more a rule old new o option has added = record { is = added.shape option.local ∙ ap₂ with_rule has.is option.is; local = added.globals ∙ neither _ _ has.local option.local }

-- the shape of a command is that of its options
shaped : (a : App) (c : TheCommand) → HasOptions a c → HasShape a.top c
shaped a c has old new adds = adds.shape has.local ∙ ap (λ (b : App). with_subcommand (app_of old) b.top) has.is

-- a command that has taken so many of these options
abbrev pub HasTaken : List ℕ → List CommandOption → ℕ → TheCommand → Type 0
HasTaken name options n c = HasOptions (record { top = record (new_shape name) { rules = map option_rule (take n options) }; subs = [] }) c

-- it takes the next one
pub one_taken : (name : List ℕ) (options : List CommandOption) (i : ℕ) (d : CommandOption) (old new : TheCommand) (o : TheArg) → i < length options → IsOption (option_rule (get_or options i d)) o → HasTaken name options i old → AddsArg old o new → HasTaken name options (i + 1) new
one_taken name options i d old new o lt option has added =
    subst (λ (rules : List Rule). HasOptions (record { top = record (new_shape name) { rules = rules }; subs = [] }) new) (sym (map_more option_rule options i d lt)) (has_more _ _ old new o option has added)

-- it has taken all
pub all_taken : (name : List ℕ) (options : List CommandOption) (n : ℕ) (c : TheCommand) → length options ≤ n → HasTaken name options n c → HasShape (with_options name options) c
all_taken name options n c over has =
    shaped _ c (subst (λ (os : List CommandOption). HasOptions (record { top = record (new_shape name) { rules = map option_rule os }; subs = [] }) c) (take_all n options over) has)

-- a command line takes one more command in, and what it is with the others stays
pub one_added : (whole : App) (forms : List CommandForm) (i : ℕ) (d : CommandForm) (old new : TheCommand) → i < length forms → app_of new ≡ with_subcommand (app_of old) (form_shape (get_or forms i d)) → with_shapes (app_of old) (map form_shape (drop i forms)) ≡ whole → with_shapes (app_of new) (map form_shape (drop (i + 1) forms)) ≡ whole
one_added whole forms i d old new lt is all =
    ap (λ (a : App). with_shapes a (map form_shape (drop (i + 1) forms))) is ∙ (sym (at_drop_more (λ (fs : List CommandForm). with_shapes (app_of old) (map form_shape fs)) forms i d lt) ∙ all)

-- it has taken all in
pub all_added : (whole : App) (forms : List CommandForm) (n : ℕ) (c : TheCommand) → length forms ≤ n → with_shapes (app_of c) (map form_shape (drop n forms)) ≡ whole → app_of c ≡ whole
all_added whole forms n c over all = sym (at_drop_all (λ (fs : List CommandForm). with_shapes (app_of c) (map form_shape fs)) forms n over) ∙ all
