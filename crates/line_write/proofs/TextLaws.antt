-- A pattern's text: the header's line, then the places' lines, then the edges'.
use mathlib.Core.Path.{◌≡◌, refl, ap}
use mathlib.Core.List.{List, [], ◌∷◌, ◌++◌, map}
use Rattle.pattern.specs.declared.Pattern.{Pattern}
use Rattle.pattern.specs.InUse.{places_of, edges_of}
use Rattle.pattern_text.specs.Bytes.{Bytes}
use Rattle.pattern_text.specs.Form.{write_many}
use Rattle.pattern_text.specs.Line.{place, edge}
use Rattle.pattern_text.specs.Text.{place_line_of, edge_line_of, doc_of, raws_of, ended, render_of}
use Rattle.pattern_text.proofs.Runs.{write-append}
use Rattle.line_write.specs.Lines.{header_text, place_text, edge_text}

pub many-map : {A B : Type 0} (w : B → Bytes) (g : A → B) (xs : List A) → write_many w (map g xs) ≡ write_many (λ x. w (g x)) xs
unfolding write_many
many-map w g [] = refl
many-map w g (x ∷ xs) = ap (◌++◌ (w (g x))) (many-map w g xs)

pub lines : (p : Pattern) → header_text p ++ (write_many place_text (places_of p) ++ write_many edge_text (edges_of p)) ≡ render_of p
unfolding render_of raws_of write_many doc_of
lines p =
    let ls = map place_line_of (places_of p) in
    let es = map edge_line_of (edges_of p) in
    rw (write-append (map place ls) (map edge es), many-map ended place ls, many-map ended edge es, many-map (λ l. ended (place l)) place_line_of, many-map (λ e. ended (edge e)) edge_line_of)
