-- What is written in some places, one after another.
use Rattle.dm_cmd_explore.proofs.Names.{◌≡◌, Bool, true, false, List, [], ◌∷◌, ◌++◌, ap, ◌∙◌, Option, None, Some, ◌&&◌, map, list_all, all_written}

pub written-none : {X : Type 0} (p : X → Bool) (ws : List (Option X)) → ws ≡ [] → list_all p (all_written ws) ≡ true
written-none p ws none = ap (λ x. list_all p (all_written x)) none

pub written-nothing : {X Y : Type 0} (f : X → Y) (ys : List Y) (ws : List (Option X)) → ws ≡ [] → ys ++ map f (all_written ws) ≡ ys ++ []
written-nothing f ys ws none = ap (λ x. ys ++ map f (all_written x)) none

pub written-skip : {X : Type 0} (ws rest : List (Option X)) → ws ≡ None ∷ rest → all_written ws ≡ all_written rest
written-skip ws rest is = ap all_written is

pub written-some : {X : Type 0} (ws rest : List (Option X)) (x : X) → ws ≡ Some x ∷ rest → all_written ws ≡ x ∷ all_written rest
written-some ws rest x is = ap all_written is

pub written-bad : {X : Type 0} (p : X → Bool) (ws rest : List (Option X)) (x : X) → ws ≡ Some x ∷ rest → p x ≡ false → list_all p (all_written ws) ≡ false
written-bad p ws rest x is bad = ap (λ y. list_all p (all_written y)) is ∙ ap (λ b. b && list_all p (all_written rest)) bad

pub written-good : {X : Type 0} (p : X → Bool) (ws rest : List (Option X)) (x : X) → ws ≡ Some x ∷ rest → p x ≡ true → list_all p (all_written ws) ≡ list_all p (all_written rest)
written-good p ws rest x is good = ap (λ y. list_all p (all_written y)) is ∙ ap (λ b. b && list_all p (all_written rest)) good

pub ruleset written_lemmas = (written-none, written-nothing, written-skip, written-some, written-bad, written-good)
