-- Only a put tells of a message, and counts a kernel's own.
use Rattle.dm_law_rule.proofs.Names.{◌≡◌, ℕ, Bool, true, false, refl, Option, None, Some, MsgId, MessageKind, Label, Step, Line, View, Told, About, Of, view_after, after_head, after_label, after_proto, asks_on, served_told, ends_by, taken_id}
use Rattle.dm_law_rule.proofs.Names.{sort_of, arith}

-- nothing is told or counted
pub record Hushed (v w : View) : Type 0 where
  pub count : w.count ≡ v.count
  pub told : w.told ≡ v.told

hush : (v : View) → Hushed v v
hush v = record { count = refl; told = refl }

abbrev pub is_put : Line → Bool
is_put (Line.Put a b id k q) = true
is_put l = false

pub hushed : (v : View) (l : Line) → is_put l ≡ false → Hushed v (view_after v l)
hushed v l h1 =
    let proto_hush : (v : View) (o : Option Told) → Hushed v (after_proto v o) = λ v o.
    let asks_hush : (v : View) (a : About) → Hushed v (asks_on v a) = λ v a. elim a as (λ a_. Hushed v (asks_on v a_)) [ Of p' ↦ record { count = refl; told = refl } | _ ↦ hush v ] in
    elim o as (λ o_. Hushed v (after_proto v o_)) [ None ↦ record { count = refl; told = refl } | Some t' ↦ search (arith, asks_hush, hush) ] in
    let taken_hush : (v : View) (b : ℕ) (o : Option MsgId) → Hushed v (taken_id v b o) = λ v b o. elim o as (λ o_. Hushed v (taken_id v b o_)) [ None ↦ hush v | Some id' ↦ record { count = refl; told = refl } ] in
    let head_hush : (v : View) (s : Step) → Hushed v (after_head v s) = λ v s. elim s as (λ s_. Hushed v (after_head v s_)) [ Step.Turn m' ↦ record { count = refl; told = refl } | _ ↦ record { count = refl; told = refl } ] in
    let served_hush : (v : View) (o : Option Told) → Hushed v (served_told v o) =
    λ v o. elim o as (λ o_. Hushed v (served_told v o_)) [ None ↦ hush v | Some t' ↦ elim t'.kind as (λ k. Hushed v (ends_by (sort_of k) v (Some t'.receiver))) [ MessageKind.Kill ↦ record { count = refl; told = refl } | _ ↦ hush v ] ] in
    let label_hush : (v : View) (l : Label) → Hushed v (after_label v l) = λ v l. search (arith, hush, served_hush) in search (arith, head_hush, hush, label_hush, taken_hush, proto_hush)
