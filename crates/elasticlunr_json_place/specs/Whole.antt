-- Places below lines.
use Rattle.std.specs.Prelude.{◌+◌, ℕ}
use Rattle.elasticlunr_json_place.specs.declared.place.Place.{Place}

-- the place so many lines below
abbrev pub below : ℕ → Place → Place
below lines place = record { line = lines + place.line; column = place.column }
