-- Nothing more behind a list.
use Rattle.std.proofs.Common.{◌≡◌, ℕ, List, [], ◌++◌, append-nil}

pub nothing_more : (bytes : List ℕ) → bytes ++ [] ≡ bytes
nothing_more bytes = append-nil bytes
