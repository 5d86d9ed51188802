-- the files so far are written
use Rattle.std.proofs.Common.{◌≡◌, ◌++◌, All, map, take}
use Rattle.std.specs.List.{flat_map}
use Rattle.elasticlunr_in_pieces.specs.Folder.{file_told, flat_file, IsFlatFile}
use Rattle.elasticlunr_in_pieces.proofs.flat.put_pieces.Given as goal

abbrev pub invariant-loop-piece : goal.invariant-loop-piece
invariant-loop-piece l = record {
  fits : All IsFlatFile (map file_told (take l.piece-index l.pieces));
  written : l.out.items ≡ l.initial.out.items
      ++ flat_map flat_file (map file_told (take l.piece-index l.pieces));
}
