-- What the attributes of the code stand for.
use Rattle.std.specs.Prelude.{ℕ, List}
use Rattle.dm_text.specs.Written.{word_text}
use Rattle.dm_chart.specs.declared.xml.Attribute.{Attribute}

-- its name, and the text of its value
abbrev pub seen : Attribute → List ℕ × List ℕ
seen a = (a.0.now, word_text a.1)
