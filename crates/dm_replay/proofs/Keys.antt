-- Names of messages in their order.
use Rattle.std.specs.Prelude.{◌≡◌, Bool, true, false, if◌then◌else◌, cond}
use Rattle.std.specs.declared.option.Option.{Option}
use Rattle.dm_replay.specs.declared.by_name.Key.{Key}
use Rattle.std.proofs.Common.{ap, arith, ◌∙◌}
use Rattle.std.proofs.lemmas.Grind.{common_steps}
use Rattle.std.specs.BTreeMap.{is_at}
use Rattle.dm_message.specs.declared.MsgId.{MsgId}
use Rattle.dm_message.specs.Ids.{id_eq}
use Rattle.dm_replay.specs.Named.{key_cmp, key_of}

-- two keys are one where the names are
pub same_key : (i j : MsgId) → is_at (key_cmp (key_of i)) (key_of j) ≡ id_eq i j
same_key i j = by i.answer j.answer
  where
    by : (a b : Bool) → is_at (key_cmp (key_of (record { from = i.from; n = i.n; answer = a }))) (key_of (record { from = j.from; n = j.n; answer = b })) ≡
        id_eq (record { from = i.from; n = i.n; answer = a }) (record { from = j.from; n = j.n; answer = b })
    by true true = grind (arith, common_steps)
    by true false = grind (arith, common_steps)
    by false true = grind (arith, common_steps)
    by false false = grind (arith, common_steps)

chosen : {V : Type 0} (c : Bool) (n w o : Option V) → n ≡ cond c w o → n ≡ (if c then w else o)
chosen true n w o e = e
chosen false n w o e = e

-- a value that is set, or taken out, by its key
pub set_at : {V : Type 0} (i j : MsgId) (k : Key) (n w o : Option V) → k ≡ key_of i → n ≡ cond (is_at (key_cmp k) (key_of j)) w o → n ≡ (if id_eq i j then w else o)
set_at i j k n w o is e =
    chosen (id_eq i j) n w o (e ∙ ap (λ (x : Key). cond (is_at (key_cmp x) (key_of j)) w o) is ∙ ap (λ (b : Bool). cond b w o) (same_key i j))
