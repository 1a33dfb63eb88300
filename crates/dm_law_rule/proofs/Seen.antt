-- The view behind a line is what the line changes; only where a process is asked to move the topic is another.
use Rattle.dm_law_rule.proofs.Names.{◌≡◌, refl, ap, Option, None, Pid, Label, OneKernel, Line, View, About, Target, view_after, label_of, seen, topic_by, target_of, sets_off, ℕ, Spot, Queue, ids_at, Of, Frozen, at_machine, at_record, without}
use Rattle.dm_law_rule.proofs.Names.{IsUnasked, option_and_then, slice_get, arith}
use Rattle.dm_law_rule.proofs.Lines.{Bag, Stands, Stands-stays}
use Rattle.dm_law_rule.specs.View as view

pub seen_is : (s : OneKernel) (v : View) (l : Line) → IsUnasked (label_of l) → seen s v l ≡ view_after v l
seen_is s v l h = ap (view.about (view_after v l)) (let e_ : topic_by s (view_after v l).topic (label_of l) ≡ (view_after v l).topic = search arith in e_)

-- so it is behind a line that is no step
pub seen_none : (s : OneKernel) (v : View) (l : Line) → label_of l ≡ None → seen s v l ≡ view_after v l
seen_none s v l none = ap (λ (o : Option Label). view.about (view_after v l) (topic_by s (view_after v l).topic o)) none

-- the topic moves no message
pub about_off : (v : View) (a : About) (z : Spot) → ids_at (view.about v a) z ≡ ids_at v z
about_off v a (Queue m q) = refl
about_off v a _ = refl

pub Stands-about : (bag : Bag) (v : View) (a : About) → Stands bag v → Stands bag (view.about v a)
Stands-about bag v a h = Stands-stays bag v (view.about v a) (λ z. about_off v a z) (λ i. refl) h

-- where it goes, behind either
abbrev pub aim : View → About → ℕ
aim v (Target m) = m
aim v a = target_of (option_and_then v.told (slice_get (v.inbox v.acting) 0))

-- what step 1 changes, whatever was said before it, but for the inbox
pub record SetsOff (v w : View) (p : Pid) (to : ℕ) : Type 0 where
  pub known : w.known ≡ at_record v.known v.acting p (Frozen to)
  pub ring : w.ring ≡ at_machine v.ring v.acting (without p (v.ring v.acting))
  pub topic : w.topic ≡ Of p
  pub acting : w.acting ≡ v.acting
  pub pair : w.pair ≡ v.pair
  pub queue : w.queue ≡ v.queue
  pub held : w.held ≡ v.held
  pub moves : w.moves ≡ v.moves
  pub asked : w.asked ≡ v.asked
  pub told : w.told ≡ v.told
  pub count : w.count ≡ v.count
  pub groups : w.groups ≡ v.groups

pub sets : (v : View) (p : Pid) (a : About) → SetsOff v (sets_off v p a) p (aim v a)
sets v p (Target m) = record { known = refl; ring = refl; topic = refl; acting = refl; pair = refl; queue = refl; held = refl; moves = refl; asked = refl; told = refl; count = refl; groups = refl }
sets v p _ = record { known = refl; ring = refl; topic = refl; acting = refl; pair = refl; queue = refl; held = refl; moves = refl; asked = refl; told = refl; count = refl; groups = refl }
