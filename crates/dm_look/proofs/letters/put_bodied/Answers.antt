use Rattle.dm_text.proofs.Names.{◌∷◌, [], ◌++◌, codes, map, id_word, pid_word, word_text}
use Rattle.dm_message.specs.Kinds.{kind_of, word_of}
use Rattle.dm_look.specs.LetterText.{body_words}
use Rattle.dm_look.proofs.Lettered.{fronted, two_spaced}
use Rattle.dm_look.proofs.letters.put_bodied.Goals as goal

pub returns : goal.returns
returns c =
    let m = c.args.message.now in
    let words = map word_text c.args.words.now in
    let body = body_words c.args.body.now in
    fronted (codes "content") (id_word m.id ∷ word_of (kind_of m.what) ∷ pid_word m.to.pid ∷ []) (words ++ body) _ _ _ _ c.in_ok-put_front.ensures (two_spaced words body _ _ _ c.in_ok-put_words.ensures.ok c.in_ok-put_body.ensures) c.in_ok-push.ensures.items
