-- The top table of a document.
use Rattle.dm_boot.proofs.Imports.{is_utf8-from_IsUtf8, IsUtf8-from_is_utf8, view-Table}

pub ruleset document_lemmas = (is_utf8-from_IsUtf8, IsUtf8-from_is_utf8, view-Table)
