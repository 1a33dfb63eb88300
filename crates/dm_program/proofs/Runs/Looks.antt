-- What is seen behind the first groups of a run of the world is so by the rule; and a pair that wears there is not seen where there are so
-- many groups.
use Rattle.dm_program.proofs.Runs.Names.{◌≡◌, ◌≤◌, ◌<◌, ◌⊎◌, inl, inr, ℕ, suc, List, [], ◌∷◌, ◌++◌, length, refl, ap, sym, subst, ◌∙◌, arith, All, Boot, IsValid, Directive, Line, Point, Todo, IsRun, all_of, first_point, shorter_begins, world_state, IsFor, WorldPlace, by_world, end_is_said, IsDone}
use Rattle.dm_program.proofs.Runs.ByRule.{over}
use Rattle.dm_program.proofs.Runs.Decisions.{Wearing, ends_once, no_more}
use Rattle.dm_program.proofs.Runs.Stands.{IsLed, is_led}
use Rattle.std.proofs.Common.{append-nil}
use Rattle.dm_program.proofs.Names.{Sees, IsAt, WearsBefore, Letter, held_by_world, letters_are_said, HoldsLetters, WearsAfter, by_rule, held_by_rule}
use Rattle.dm_look.proofs.Carried.{Seen}
use Rattle.dm_program.proofs.Runs.Endings.{wears_after}

seen_led : (b : Boot) (ds : List Directive) (gs : List (List Line)) (p : WorldPlace) → IsValid b → IsLed b ds p.way gs p.state → Seen by_world by_rule held_by_world held_by_rule b ds gs p
seen_led b ds gs p valid h = record {
  at = record { end = h.end; left = h.left };
  good = h.stands.good;
  over = λ done. over b ds p gs valid h done;
  ends = end_is_said b h.stands.steps p.state h.end valid h.stands.leads h.stands.stands;
  holds = λ letters are. letters_are_said b h.stands.steps p.state h.end letters valid h.stands.leads h.stands.stands are;
}

pub sees : (b : Boot) (ds : List Directive) → IsValid b → All (IsFor (length b.machines)) ds → Sees by_world by_rule held_by_world held_by_rule b ds
sees b ds valid each gs p led = seen_led b ds gs p valid (is_led b ds p.way p.steps gs p.state valid each led)

-- a run of so many groups isn't one that was worn before
longer_on : (b : Boot) (end fin : Point) (left rest : Todo) (gs hs more : List (List Line)) (from to : ℕ) → length hs < length gs → gs ≡ hs ++ more → Wearing b fin rest from to → IsRun b fin rest more end left → ⊥
longer_on b end fin left rest gs hs [] from to fewer is w run = let e : length gs ≡ length hs = ap length is ∙ ap length (append-nil hs) in omega (arith, fewer, e)
longer_on b end fin left rest gs hs (g ∷ more) from to fewer is w run = no_more b fin end rest left g more from to w run

pub not_before : (b : Boot) (ds : List Directive) (most from to : ℕ) (gs : List (List Line)) (at_ : by_rule.Place) → IsAt by_rule b ds most gs at_ → (hs : List (List Line)) → WearsAfter b ds hs from to → length hs < most → ⊥
not_before b ds most from to gs at_ there hs w fewer =
    let wearing : Wearing b w.end w.left from to = record { next = w.next; next_is = w.next_is; worn = w.worn } in
    elim there.enough [
      | inl all ↦
          let less : length hs ≤ length gs = omega (arith, fewer, all) in
          let k = shorter_begins b (first_point b) (all_of ds) hs gs w.end at_.end w.left at_.left w.good.run there.good.run less in
          longer_on b at_.end w.end at_.left w.left gs hs k.0 from to (omega (arith, fewer, all)) k.1 wearing k.2
      | inr over ↦ ends_once b (first_point b) (all_of ds) gs hs at_.end w.end at_.left w.left from to there.good.run over w.good.run wearing
    ]
