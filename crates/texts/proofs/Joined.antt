-- A text with pieces after it is the text and theirs.
use Rattle.std.proofs.Common.{◌≡◌, ℕ, List, [], ◌∷◌, ◌++◌, sym, ap, ◌∙◌, append_assoc, append-nil}
use Rattle.texts.specs.declared.piece.Piece.{Piece}
use Rattle.texts.specs.Piece.{piece_text, text_with, text_of}

pub text_joined : (text : List ℕ) (ps : List Piece) → text_with text ps ≡ text ++ text_of ps
text_joined text [] = sym (append-nil text)
text_joined text (p ∷ ps) =
    text_joined (text ++ piece_text p) ps
    ∙ append_assoc text (piece_text p) (text_of ps)
    ∙ ap (λ t. text ++ t) (sym (text_joined (piece_text p) ps))
