-- What was wrong with words, word by word.
use Rattle.dm_words.proofs.Names.{◌≡◌, ℕ, ◌+◌, Bool, true, false, cond, if◌then◌else◌, List, [], ◌∷◌, map, refl, ap, sym, ◌∙◌, ◌&&◌, ◌||◌, sum_by-cons, count_by, list_any, Option, Form, OptionName, Wrong, On, at_end, bad_value_of}
use Rattle.dm_words.proofs.Names.{behind_name, command_told, form_named, is_bad_value, names, on, step, usage_pieces, value_among, value_here, value_of, walk}
use Rattle.std.specs.declared.option.Option.TheVariants.{None, Some}

pub count-map : {X A : Type 0} (p : A → Bool) (f : X → A) (xs : List X) → count_by (λ x. p (f x)) xs ≡ count_by p (map f xs)
count-map p f [] = refl
count-map p f (x ∷ xs) =
    sum_by-cons (λ y. cond (p (f y)) 1 0) x xs ∙ (ap (λ n. cond (p (f x)) 1 0 + n) (count-map p f xs) ∙ sym (sum_by-cons (λ y. cond (p y) 1 0) (f x) (map f xs)))

pub any-map : {X A : Type 0} (p : A → Bool) (f : X → A) (xs : List X) → list_any (λ x. p (f x)) xs ≡ list_any p (map f xs)
any-map p f [] = refl
any-map p f (x ∷ xs) = ap (λ b. p (f x) || b) (any-map p f xs)

pub value-none : (o : OptionName) (ws : List (List ℕ)) → ws ≡ [] → value_of o ws ≡ None
unfolding value_of
value-none o ws none = ap (value_of o) none

pub value-later : (o : OptionName) (ws : List (List ℕ)) (w : List ℕ) (rest : List (List ℕ)) → ws ≡ w ∷ rest → names o w ≡ false → value_of o ws ≡ value_of o rest
unfolding value_of
value-later o ws w rest is other = ap (value_of o) is ∙ ap (λ (b : Bool). if b then value_here w rest else value_of o rest) other

pub value-first : (o : OptionName) (ws : List (List ℕ)) (w : List ℕ) (rest : List (List ℕ)) → ws ≡ w ∷ rest → names o w ≡ true → value_of o ws ≡ value_here w rest
unfolding value_of
value-first o ws w rest is named = ap (value_of o) is ∙ ap (λ (b : Bool). if b then value_here w rest else value_of o rest) named

pub among-none : (ws : List (List ℕ)) → ws ≡ [] → value_among None ws ≡ None
among-none ws none = ap (value_among None) none

pub among-some : (ws : List (List ℕ)) (v : List ℕ) (rest : List (List ℕ)) → ws ≡ v ∷ rest → value_among None ws ≡ Some v
among-some ws v rest is = ap (value_among None) is

pub bad-none : (o : OptionName) (ws : List (List ℕ)) → ws ≡ [] → bad_value_of o ws ≡ None
unfolding bad_value_of
bad-none o ws none = ap (bad_value_of o) none

pub bad-later : (o : OptionName) (ws : List (List ℕ)) (w : List ℕ) (rest : List (List ℕ)) → ws ≡ w ∷ rest → (names o w && is_bad_value o (value_here w rest)) ≡ false → bad_value_of o ws ≡ bad_value_of o rest
unfolding bad_value_of
bad-later o ws w rest is other = ap (bad_value_of o) is ∙ ap (λ (b : Bool). if b then value_here w rest else bad_value_of o rest) other

pub bad-first : (o : OptionName) (ws : List (List ℕ)) (w : List ℕ) (rest : List (List ℕ)) → ws ≡ w ∷ rest → (names o w && is_bad_value o (value_here w rest)) ≡ true → bad_value_of o ws ≡ value_here w rest
unfolding bad_value_of
bad-first o ws w rest is named = ap (bad_value_of o) is ∙ ap (λ (b : Bool). if b then value_here w rest else bad_value_of o rest) named

pub ruleset bad_lemmas = (bad-none, bad-later, bad-first)

pub ruleset value_lemmas = (value-none, value-later, value-first, among-none, among-some)

pub walk-none : (f : Form) (o : Option OptionName) (ws : List (List ℕ)) → ws ≡ [] → walk f o ws ≡ at_end o
unfolding walk
walk-none f o ws none = ap (walk f o) none

pub walk-wrong : (f : Form) (o : Option OptionName) (ws : List (List ℕ)) (w : List ℕ) (rest : List (List ℕ)) (what : List (List ℕ)) → ws ≡ w ∷ rest → step f o w rest ≡ Wrong what → walk f o ws ≡ Some what
unfolding walk
walk-wrong f o ws w rest what is wrong = ap (walk f o) is ∙ ap (λ s. on s (λ next. walk f next rest)) wrong

pub walk-on : (f : Form) (o next : Option OptionName) (ws : List (List ℕ)) (w : List ℕ) (rest : List (List ℕ)) → ws ≡ w ∷ rest → step f o w rest ≡ On next → walk f o ws ≡ walk f next rest
unfolding walk
walk-on f o next ws w rest is goes = ap (walk f o) is ∙ ap (λ s. on s (λ n. walk f n rest)) goes

pub ruleset walk_lemmas = (walk-none, walk-wrong, walk-on)

pub usage-none : (ws : List (List ℕ)) → ws ≡ [] → usage_pieces ws ≡ behind_name ws
unfolding usage_pieces
usage-none ws none = ap usage_pieces none ∙ sym (ap behind_name none)

pub usage-some : (ws : List (List ℕ)) (name : List ℕ) (rest : List (List ℕ)) → ws ≡ name ∷ rest → usage_pieces ws ≡ behind_name rest
unfolding usage_pieces
usage-some ws name rest is = ap usage_pieces is

pub behind-none : (ws : List (List ℕ)) → ws ≡ [] → behind_name ws ≡ behind_name []
behind-none ws none = ap behind_name none

pub behind-some : (ws : List (List ℕ)) (c : List ℕ) (rest : List (List ℕ)) → ws ≡ c ∷ rest → behind_name ws ≡ command_told (form_named c) c rest
behind-some ws c rest is = ap behind_name is

pub ruleset usage_lemmas = (usage-none, usage-some, behind-none, behind-some)
