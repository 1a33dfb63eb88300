-- How the program ends where its words ask for nothing.
use Rattle.dm_ending.specs.declared.status.Status.{Status}
use Rattle.dm_ending.specs.declared.status.Status.TheVariants.{Usage, NoMemory}
use Rattle.dm_words.specs.declared.words.WordsError.{WordsError}
use Rattle.dm_words.specs.declared.words.WordsError.TheVariants as why

-- the status of words that name no files
abbrev pub status_of_no : WordsError → Status
status_of_no why.Usage = Usage
status_of_no (why.NoMemory lack) = NoMemory lack
