-- What is said of the messages that wait is what the kernel without machines holds.
use Rattle.std.proofs.Common.{◌≡◌, ℕ, ◌≤◌, List, map, length, refl, ap, sym, subst, ◌∙◌, arith}
use Rattle.std.proofs.lemmas.List.Elements.{All-from_recursion, recursion_from_All}
use Rattle.std.proofs.lemmas.List.Sorted.{All-permutation}
use Rattle.std.specs.Prelude.{find, filter_map, option_map}
use Rattle.std.specs.List.{AllByRecursion}
use Rattle.std.specs.List.Sorted.{IsStrictlySortedBy}
use Rattle.std.specs.declared.option.Option.{Option}
use Rattle.std.specs.declared.option.Option.TheVariants.{None, Some}
use Rattle.dm_message.specs.declared.Message.{Message}
use Rattle.dm_message.specs.declared.MsgId.{MsgId}
use Rattle.dm_message.specs.Ids.{id_eq}
use Rattle.dm_message.specs.Plain.{PlainMessage}
use Rattle.dm_onekernel.specs.declared.boot.Boot.{Boot}
use Rattle.dm_onekernel.specs.Boot.{IsValid}
use Rattle.dm_schedule.specs.declared.Step.{Step}
use Rattle.dm_law_rule.specs.Laws.{Leads}
use Rattle.dm_law_rule.specs.Point.{Point, first_point}
use Rattle.dm_law_rule.specs.Spots.{times}
use Rattle.dm_law_places.specs.Placed.{Placed, Mirrors}
use Rattle.dm_law_always.proofs.RunsAlways.{run_always}
use Rattle.dm_law_moves.proofs.Lists.Always.{lists_always}
use Rattle.dm_world.specs.Ends.{names_of}
use Rattle.dm_law_mirror.specs.Stands.{AreMessages}
use Rattle.dm_law_mirror.proofs.End.Servers.{names_are}
use Rattle.dm_look.specs.Letters.{Letter, id_cmp, letter_of}
use Rattle.dm_look.specs.Waiting.{waiting}
use Rattle.dm_law_runs.specs.Letters.Laws.{LettersAreSaid}
use Rattle.dm_law_runs.specs.Letters.Letters.{enclosed_links, letter_at, plain_links}
use Rattle.dm_law_runs.proofs.Letters.Lettered.{IsItself, all_known, all_themselves, as_often, found, not_found}
use Rattle.dm_law_runs.proofs.Letters.Order.{strict_letters, strict_names, times_moved}
use Rattle.dm_law_runs.proofs.Letters.Spots.{all_ids, few_ids, held_there}
use Rattle.dm_law_runs.proofs.Letters.Standing.{waiting_are}

-- a name is looked for among the letters of these messages
each_is : (b : Boot) (es : List Step) (pt : Point) (l : Placed) (ms : List Message) → Mirrors pt.kernel pt.view pt.addresses l → IsValid b → Leads b (first_point b) es pt → AllByRecursion (IsItself l) ms
    → ((i : MsgId) → times i (names_of ms) ≡ times i (all_ids pt)) → (i : MsgId) (o : Option PlainMessage) → pt.kernel.bag i ≡ o → find (λ (x : Letter). id_eq i x.id) (filter_map letter_of ms) ≡ letter_at pt i
each_is b es pt l ms h valid leads themselves often i None there =
    let none : letter_at pt i ≡ None = ap (option_map (λ (m : PlainMessage). record { id = i; receiver = m.to; what = m.what; links = enclosed_links pt.addresses i 0 (plain_links m.what) })) there in
    not_found (letter_at pt) i (filter_map letter_of ms) none (all_known pt l h ms themselves) ∙ sym none
each_is b es pt l ms h valid leads themselves often i (Some m) there =
    let y : Letter = record { id = i; receiver = m.to; what = m.what; links = enclosed_links pt.addresses i 0 (plain_links m.what) } in
    let is : letter_at pt i ≡ Some y = ap (option_map (λ (n : PlainMessage). record { id = i; receiver = n.to; what = n.what; links = enclosed_links pt.addresses i 0 (plain_links n.what) })) there in
    let least = held_there b es pt i m valid leads there in
    let same = often i in
    let more = as_often pt l h i y ms is themselves in
    found (letter_at pt) i y (filter_map letter_of ms) is (all_known pt l h ms themselves) (omega (arith, least, same, more)) ∙ sym is

pub letters_are_said : LettersAreSaid
letters_are_said b es w pt letters valid leads ((l, h, stands), counts) are =
    let run = (run_always b es pt valid leads).run in
    let ids = all_ids pt in
    let found_ = waiting (length b.machines) w in
    let sorted = are.sorted in
    let waits : AreMessages l.bag ids found_ = subst (λ (n : ℕ). AreMessages l.bag ids (waiting n w)) run.based.machines (waiting_are b pt l w h stands (lists_always b es pt valid leads)) in
    let named = λ (i : MsgId) (m : Message) (there : l.bag i ≡ Some m). (stands.mirrors.places.message i m there).id in
    let themselves = recursion_from_All (IsItself l) sorted (All-permutation (IsItself l) found_ sorted are.in_order.moved (All-from_recursion (IsItself l) found_ (all_themselves l ids found_ named waits))) in
    let often : (i : MsgId) → times i (names_of sorted) ≡ times i ids = λ i. times_moved i found_ sorted are.in_order.moved ∙ ap (times i) (names_are l.bag ids found_ named waits) in
    let few : (i : MsgId) → times i (names_of sorted) ≤ 1 = λ i. let e = often i in let f = few_ids b es pt i valid leads in omega (arith, e, f) in
    let strict : IsStrictlySortedBy id_cmp (map (λ (x : Letter). x.id) (filter_map letter_of sorted)) = strict_letters sorted (strict_names sorted are.in_order.ordered few) in
    record {
      ascending = subst (λ (xs : List Letter). IsStrictlySortedBy id_cmp (map (λ (x : Letter). x.id) xs)) (sym are.are) strict;
      each = λ i. ap (λ (xs : List Letter). find (λ (x : Letter). id_eq i x.id) xs) are.are ∙ each_is b es pt l sorted stands.mirrors valid leads themselves often i (pt.kernel.bag i) refl;
    }
