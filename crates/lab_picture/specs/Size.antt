-- A width and a height as attributes.
--
-- Origin: SVG 1.1.
use Rattle.std.specs.Prelude.{ℕ, List, ◌++◌, codes}
use Rattle.std.specs.Fmt.{decimal}

-- a size, as attributes
unfoldable pub size_text : ℕ → ℕ → List ℕ
size_text width height = codes " width=\"" ++ decimal width ++ codes "\" height=\"" ++ decimal height ++ codes "\""
