-- The keys of a table, as the code goes through them.
use Rattle.dm_boot.proofs.Imports.{◌≡◌, ◌≢◌, ℕ, if◌then◌else◌, None, ◌||◌, ◌&&◌, true, Some, List, [], ◌∷◌, length, slice_get, map, refl, ap, arith, String, string_bytes, Global, Bor, list_any, list_all, bytes_eq, bytes_eq-Decides, keys_of, Value, Data, as_str, string, integer, float, boolean, datetime, array, table, member, no_members, view, members_view, is_known, all_known, lone_member}

-- a key among those that references name
pub is_known-map : (known : List (Bor (List ℕ))) (key : List ℕ) → is_known (map (λ k. k.now) known) key ≡ list_any (λ k. bytes_eq k.now key) known
is_known-map [] key = refl
is_known-map (k ∷ known) key = ap (λ b. bytes_eq k.now key || b) (is_known-map known key)

-- each key of a table
pub all_known-keys : (names : List (List ℕ)) (es : List (String Global × Value)) → all_known names (members_view es) ≡ list_all (λ k. is_known names (string_bytes k)) (keys_of es)
all_known-keys names [] = refl
all_known-keys names (e ∷ es) = ap (λ b. is_known names (string_bytes e.0) && b) (all_known-keys names es)

pub ruleset keys_lemmas = (is_known-map, all_known-keys)

is-string : (d : Data) (text : List ℕ) → as_str d ≡ Some text → d ≡ string text
is-string (string s) text h = cc
is-string (integer z) text h = absurd (cc)
is-string (float x) text h = absurd (cc)
is-string (boolean b) text h = absurd (cc)
is-string (datetime dt) text h = absurd (cc)
is-string (array ds) text h = absurd (cc)
is-string (table ms) text h = absurd (cc)

-- a table of one entry, which has a text
pub lone-member : (es : List (String Global × Value)) (k : String Global) (v : Value) (key text : List ℕ) → length es ≡ 1 → slice_get es 0 ≡ Some (k, v) → bytes_eq (string_bytes k) key ≡ true → as_str (view v) ≡ Some text → members_view es ≡ member key (string text) no_members
lone-member [] k v key text one first same said = absurd (omega arith)
lone-member (e ∷ []) k v key text one first same said =
    let e_is : e ≡ (k, v) = cc in
    let key_is : string_bytes k ≡ key = (bytes_eq-Decides (string_bytes k) key).0 same in
    let text_is : view v ≡ string text = is-string (view v) text said in
    rw (e_is, key_is, text_is)
lone-member (e ∷ f ∷ es) k v key text one first same said = absurd (omega arith)

-- what such a table says, and one of another number of entries
pub lone-one : (es : List (String Global × Value)) (k : String Global) (v : Value) (key : List ℕ) → length es ≡ 1 → slice_get es 0 ≡ Some (k, v) → lone_member key (members_view es) ≡ (if bytes_eq (string_bytes k) key then as_str (view v) else None)
lone-one [] k v key one first = absurd (omega arith)
lone-one (e ∷ []) k v key one first =
    let e_is : e ≡ (k, v) = cc in
    rw e_is refl
lone-one (e ∷ f ∷ es) k v key one first = absurd (omega arith)

pub lone-none : (es : List (String Global × Value)) (key : List ℕ) → length es ≢ 1 → lone_member key (members_view es) ≡ None
lone-none [] key other = refl
lone-none (e ∷ []) key other = absurd (other refl)
lone-none (e ∷ f ∷ es) key other = refl

pub ruleset lone_lemmas = (lone-member, lone-one, lone-none)
