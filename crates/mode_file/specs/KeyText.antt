-- How a fault tells a key
use Rattle.std.specs.Prelude.{ℕ, List, if◌then◌else◌, codes}
use Rattle.ttw_text.specs.Names.{is_name}

-- the key where it is spelled as a name, and ? otherwise
abbrev pub shown_key : List ℕ → List ℕ
shown_key key = if is_name key then key else codes "?"
