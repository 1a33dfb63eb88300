-- What is in a message of the machines is what the kernel without machines and the addresses say.
use Rattle.std.proofs.Common.{◌≡◌, ℕ, suc, ◌+◌, ◌≤◌, Bool, true, false, if◌then◌else◌, cond, List, [], ◌∷◌, map, refl, ap, sym, ◌∙◌, inl, inr, arith}
use Rattle.std.specs.Prelude.{slice_get, option_map, filter_map, find}
use Rattle.std.specs.List.{AllByRecursion, cons_option}
use Rattle.std.specs.declared.option.Option.{Option}
use Rattle.std.specs.declared.option.Option.TheVariants.{None, Some}
use Rattle.dm_link.specs.declared.Link.{Link}
use Rattle.dm_link.specs.Names.{Place, place_of}
use Rattle.dm_link.specs.Plain.{plain_link}
use Rattle.dm_message.specs.declared.Message.{Message}
use Rattle.dm_message.specs.declared.MsgId.{MsgId}
use Rattle.dm_message.specs.declared.What.{What}
use Rattle.dm_message.specs.Ids.{id_eq}
use Rattle.dm_message.specs.Plain.{PlainMessage, PlainWhat, plain_message, plain_what, with_what}
use Rattle.dm_onekernel.specs.Options.{bind}
use Rattle.dm_law_rule.specs.Addresses.{Addresses, Enclosed}
use Rattle.dm_law_rule.specs.Ends.{leading}
use Rattle.dm_law_rule.specs.Point.{Point}
use Rattle.dm_law_rule.specs.Spots.{times}
use Rattle.dm_law_places.specs.Placed.{Placed, Mirrors, enclosed}
use Rattle.dm_law_mirror.specs.Stands.{AreMessages}
use Rattle.dm_law_moves.proofs.Names.{cases_Bool, id_eq-is}
use Rattle.dm_world.specs.Ends.{names_of}
use Rattle.dm_look.specs.Letters.{Letter, letter_of, links_in}
use Rattle.dm_law_runs.specs.Letters.Letters.{enclosed_links, letter_at, plain_links}

-- enclosed links, with their addresses
enclosed_same : (a : Addresses) (id : MsgId) (k : ℕ) (ls : List Link) → ((j : ℕ) (l : Link) → slice_get ls j ≡ Some l → a (Enclosed id (k + j)) ≡ place_of l.addr) → enclosed_links a id k (map plain_link ls) ≡ ls
enclosed_same a id k [] leads = refl
enclosed_same a id k (x ∷ xs) leads =
    let here : a (Enclosed id k) ≡ place_of x.addr = ap (λ (n : ℕ). a (Enclosed id n)) (let f : k ≡ k + 0 = omega arith in f) ∙ leads 0 x refl in
    let rest = enclosed_same a id (k + 1) xs (λ j l e. ap (λ (n : ℕ). a (Enclosed id n)) (let f : k + 1 + j ≡ k + suc j = omega arith in f) ∙ leads (suc j) l e) in
    ap (λ (q : Place). leading (plain_link x) q ∷ enclosed_links a id (k + 1) (map plain_link xs)) here ∙ ap (λ (ls : List Link). x ∷ ls) rest

all_enclosed : (a : Addresses) (id : MsgId) (ls : List Link) → ((j : ℕ) (l : Link) → slice_get ls j ≡ Some l → a (Enclosed id j) ≡ place_of l.addr) → enclosed_links a id 0 (map plain_link ls) ≡ ls
all_enclosed a id ls leads = enclosed_same a id 0 ls (λ j l e. ap (λ (n : ℕ). a (Enclosed id n)) (let f : 0 + j ≡ j = omega arith in f) ∙ leads j l e)

-- what is in a message of the kernel
abbrev letter_from : Point → MsgId → PlainMessage → Letter
letter_from pt id m = record { id = id; receiver = m.to; what = m.what; links = enclosed_links pt.addresses id 0 (plain_links m.what) }

abbrev letter_with : Message → What → PlainWhat → Letter
letter_with m x w = record { id = m.id; receiver = m.to.pid; what = w; links = links_in x }

by_what : (pt : Point) (m : Message) (x : What) → ((k : ℕ) (l : Link) → slice_get (enclosed x) k ≡ Some l → pt.addresses (Enclosed m.id k) ≡ place_of l.addr)
    → option_map (letter_from pt m.id) (with_what m (plain_what x)) ≡ option_map (letter_with m x) (plain_what x)
by_what pt m (What.User code channel body links) leads =
    ap (λ (ls : List Link). Some (record { id = m.id; receiver = m.to.pid; what = PlainWhat.User code channel body.items (map plain_link links.items); links = ls })) (all_enclosed pt.addresses m.id links.items leads)
by_what pt m (What.Create image links) leads =
    ap (λ (ls : List Link). Some (record { id = m.id; receiver = m.to.pid; what = PlainWhat.Create image (map plain_link links.items); links = ls })) (all_enclosed pt.addresses m.id links.items leads)
by_what pt m _ leads = refl

-- a message that stands under its name
abbrev pub IsItself : Placed → Message → Type 0
IsItself l m = l.bag m.id ≡ Some m

pub letter_is : (pt : Point) (l : Placed) (m : Message) → Mirrors pt.kernel pt.view pt.addresses l → IsItself l m → letter_at pt m.id ≡ letter_of m
letter_is pt l m h there =
    let bag : pt.kernel.bag m.id ≡ plain_message m = sym (h.plain.bag m.id) ∙ ap (λ (o : Option Message). bind o plain_message) there in
    ap (option_map (letter_from pt m.id)) bag ∙ by_what pt m m.what (h.places.message m.id m there).enclosed

pub all_themselves : (l : Placed) (ids : List MsgId) (ms : List Message) → ((i : MsgId) (m : Message) → l.bag i ≡ Some m → m.id ≡ i) → AreMessages l.bag ids ms → AllByRecursion (IsItself l) ms
all_themselves l [] [] named e = tt
all_themselves l [] (m ∷ ms) named e = cc
all_themselves l (i ∷ ids) [] named e = cc
all_themselves l (i ∷ ids) (m ∷ ms) named e =
    let first : l.bag i ≡ Some m = cc in
    let rest : AreMessages l.bag ids ms = cc in
    (ap l.bag (named i m first) ∙ first, all_themselves l ids ms named rest)

-- the letters of such messages
module _ (pt : Point) (l : Placed) (h : Mirrors pt.kernel pt.view pt.addresses l) where
  abbrev IsKnown : Letter → Type 0
  IsKnown x = letter_at pt x.id ≡ Some x

  one_known : (m : Message) (o : Option PlainWhat) (rest : List Letter) → letter_at pt m.id ≡ option_map (letter_with m m.what) o → AllByRecursion IsKnown rest → AllByRecursion IsKnown (cons_option (option_map (letter_with m m.what) o) rest)
  one_known m None rest e k = k
  one_known m (Some w) rest e k = (e, k)

  pub all_known : (ms : List Message) → AllByRecursion (IsItself l) ms → AllByRecursion IsKnown (filter_map letter_of ms)
  all_known [] k = tt
  all_known (m ∷ ms) k = one_known m (plain_what m.what) (filter_map letter_of ms) (letter_is pt l m h k.0) (all_known ms k.1)

  -- a message that the kernel holds has one
  one_more : (i : MsgId) (m : Message) (o : Option PlainWhat) (rest : List Letter) (n : ℕ) (c : Bool) → id_eq i m.id ≡ c → (c ≡ true → option_map (letter_with m m.what) o ≡ None → ⊥) → n ≤ times i (map (λ (x : Letter). x.id) rest)
      → (if c then 1 else 0) + n ≤ times i (map (λ (x : Letter). x.id) (cons_option (option_map (letter_with m m.what) o) rest))
  one_more i m None rest n true e some k = absurd (some refl refl)
  one_more i m None rest n false e some k = omega (arith, k)
  one_more i m (Some w) rest n c e some k = let f = ap (λ (t : Bool). (if t then 1 else 0) + times i (map (λ (x : Letter). x.id) rest)) e in omega (arith, f, k)

  pub as_often : (i : MsgId) (y : Letter) (ms : List Message) → letter_at pt i ≡ Some y → AllByRecursion (IsItself l) ms → times i (names_of ms) ≤ times i (map (λ (x : Letter). x.id) (filter_map letter_of ms))
  as_often i y [] there k = omega arith
  as_often i y (m ∷ ms) there k =
      one_more i m (plain_what m.what) (filter_map letter_of ms) (times i (names_of ms)) (id_eq i m.id) refl
      (λ same none. let is = id_eq-is i m.id same in let f : Some y ≡ None = sym there ∙ (ap (letter_at pt) is ∙ (letter_is pt l m h k.0 ∙ none)) in cc)
      (as_often i y ms there k.1)

-- a letter that is looked for by its name
module _ (f : MsgId → Option Letter) where
  abbrev Fits : Letter → Type 0
  Fits x = f x.id ≡ Some x

  pub not_found : (i : MsgId) (xs : List Letter) → f i ≡ None → AllByRecursion Fits xs → find (λ (x : Letter). id_eq i x.id) xs ≡ None
  not_found i [] none k = refl
  not_found i (x ∷ xs) none k = elim (cases_Bool (id_eq i x.id)) [
    | inl same ↦ absurd (let is = id_eq-is i x.id same in let g : None ≡ Some x = sym none ∙ (ap f is ∙ k.0) in cc)
    | inr off ↦ ap (λ (c : Bool). cond c (Some x) (find (λ (y : Letter). id_eq i y.id) xs)) off ∙ not_found i xs none k.1
  ]

  pub found : (i : MsgId) (y : Letter) (xs : List Letter) → f i ≡ Some y → AllByRecursion Fits xs → 1 ≤ times i (map (λ (x : Letter). x.id) xs) → find (λ (x : Letter). id_eq i x.id) xs ≡ Some y
  found i y [] there k least = absurd (omega (arith, least))
  found i y (x ∷ xs) there k least = elim (cases_Bool (id_eq i x.id)) [
    | inl same ↦ ap (λ (c : Bool). cond c (Some x) (find (λ (z : Letter). id_eq i z.id) xs)) same ∙ (let is = id_eq-is i x.id same in sym k.0 ∙ (ap f (sym is) ∙ there))
    | inr off ↦
        let less = ap (λ (c : Bool). (if c then 1 else 0) + times i (map (λ (z : Letter). z.id) xs)) off in
        ap (λ (c : Bool). cond c (Some x) (find (λ (z : Letter). id_eq i z.id) xs)) off ∙ found i y xs there k.1 (omega (arith, less, least))
  ]
