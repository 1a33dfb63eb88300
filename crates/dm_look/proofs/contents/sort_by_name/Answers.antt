use Rattle.std.proofs.Common.{rules}
use Rattle.std.proofs.lemmas.Fn.{always_returns_same}
use Rattle.std.proofs.lemmas.List.Sorted.{IsPermutation-map}
use Rattle.std.specs.Ordering.{is_lt}
use Rattle.dm_message.specs.declared.Message.{Message}
use Rattle.dm_look.specs.Letters.{id_cmp}
use Rattle.dm_look.specs.Ranks.{rank_of}
use Rattle.dm_look.proofs.Texts.{seen_sorted}
use Rattle.dm_look.proofs.contents.sort_by_name.Goals as goal

pub returns : goal.returns
returns c =
    let s = c.sort_unstable_by_key.ensures in
    record {
      moved = IsPermutation-map (λ m. m.now) _ _ s.permutation;
      ordered = seen_sorted (λ m. m.now) (λ (x y : Message). is_lt (id_cmp x.id y.id)) _ (s.sorted (λ x. rank_of x.now.id) (always_returns_same _ _ _ (λ a r q k. search rules)));
    }
