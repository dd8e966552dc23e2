-- The records of the first page. Each is born at 1 and alive.
use Rattle.std.specs.Prelude.{ℕ, zero, suc, ◌≡◌, ◌+◌, ◌^◌, ◌<◌, ◌≤◌, List, [], ◌∷◌, ◌++◌, length}
use Rattle.xdr_grammar.specs.Items.{hyper}
use Rattle.nfs3_types.specs.declared.moment.Moment.{Moment}
use Rattle.pair_types.specs.declared.quad.Quad.{Quad}
use Rattle.btree_page.specs.Content.{Content, IsNext, spelling, with_cell}
use Rattle.btree_page.specs.Tree.{quad_cell}
use Rattle.pairs.specs.Lives.{never}
use Rattle.fs_rules.specs.Tree.{root_inode, always}
use Rattle.fs_keys.specs.declared.inode.Inode.{Inode}
use Rattle.fs_keys.specs.declared.rows.First.{First}
use Rattle.fs_keys.specs.declared.key_parts.KeyParts.TheVariants as key
use Rattle.fs_keys.specs.Keys.{Parts, key_of}
use Rattle.fs_keys.specs.Inodes.{value_of}
use Rattle.fs_keys.specs.Values.{first, times}

abbrev pub newborn : Parts → List ℕ → Quad
newborn parts value = record { key = key_of parts; birth = 1; death = never; value = value }

-- lane l gives the number 16 + l first
abbrev pub lane_quad : ℕ → Quad
lane_quad lane = newborn (key.Lane lane) (hyper.spelling (16 + lane))

-- the first so many lanes
unfoldable pub lanes_to : ℕ → List Quad
lanes_to zero = []
lanes_to (suc n) = lanes_to n ++ lane_quad n ∷ []

abbrev pub first_row : ℕ → List ℕ → First
first_row fsid verifier = record { epoch = 1; fsid = fsid; verifier = verifier }

-- the root has no bytes of its own, and as a directory the size 4096
abbrev pub root_row : Moment → Inode
root_row at = record { head = record { kept = root_inode 2 3 (always at); size = 4096; floor = 0 }; target = [] }

abbrev pub first_quad : ℕ → List ℕ → Quad
first_quad fsid verifier = newborn key.First (first.spelling (first_row fsid verifier))

abbrev pub root_quad : Moment → Quad
root_quad at = newborn (key.Inode 1) (value_of (root_row at))

abbrev pub times_quad : Moment → Quad
times_quad at = newborn key.Times (times.spelling (always at))

-- the record may come next in the page, and has room there
pub record MayFollow (page : Content) (q : Quad) : Type 0 where
  pub next : IsNext page (quad_cell q)
  pub room : length (spelling (with_cell page (quad_cell q))) ≤ 8192

-- a time fits its two words
pub record IsTime (at : Moment) : Type 0 where
  pub seconds : at.seconds < 2 ^ 32
  pub nanos : at.nanos < 2 ^ 32

-- a file system's number, its verifier and its first moment, as a record can have them
pub record AreGiven (fsid : ℕ) (verifier : List ℕ) (at : Moment) : Type 0 where
  pub fsid_fits : fsid < 2 ^ 64
  pub eight : length verifier ≡ 8
  pub time : IsTime at
