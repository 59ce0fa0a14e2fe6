-- The line that a run says as it ends, where its journal gives no history: one JSON object, and a newline.
use Rattle.std.specs.Prelude.{ℕ, List, [], ◌∷◌, codes}
use Rattle.line_link.specs.declared.status.Status.{Status}
use Rattle.line_link.specs.declared.status.Status.TheVariants.{NotJournal, Cut, NotAct, Illegal}
use Rattle.wire_json.specs.Members.{object}
use Rattle.wire_json.specs.ReplyText.{number_member, word_member}

-- a fault at a place of the journal, behind so many acts
abbrev pub place_text : ℕ → List ℕ → ℕ → List ℕ
place_text place error lsn = object (number_member (codes "at") place ∷ word_member (codes "error") error ∷ number_member (codes "lsn") lsn ∷ [])

abbrev pub end_text : Status → List ℕ
end_text NotJournal = object (word_member (codes "error") (codes "NotJournal") ∷ [])
end_text (Cut place lsn) = place_text place (codes "Cut") lsn
end_text (NotAct place lsn) = place_text place (codes "NotAct") lsn
end_text (Illegal place lsn code) =
    object (number_member (codes "at") place ∷ number_member (codes "code") code ∷ word_member (codes "error") (codes "Illegal") ∷ number_member (codes "lsn") lsn ∷ [])
end_text status = []
