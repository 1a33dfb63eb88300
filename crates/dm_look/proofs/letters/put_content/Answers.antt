use Rattle.dm_text.proofs.Names.{◌∷◌, [], codes, map, id_word, pid_word, word_text}
use Rattle.dm_message.specs.Kinds.{kind_of, word_of}
use Rattle.dm_look.proofs.Lettered.{fronted}
use Rattle.dm_look.proofs.letters.put_content.Goals as goal

pub returns : goal.returns
returns c =
    let m = c.args.message.now in
    fronted (codes "content") (id_word m.id ∷ word_of (kind_of m.what) ∷ pid_word m.to.pid ∷ []) (map word_text c.args.words.now) _ _ _ _ c.in_ok-put_front.ensures c.in_ok-put_words.ensures.ok c.in_ok-push.ensures.items
