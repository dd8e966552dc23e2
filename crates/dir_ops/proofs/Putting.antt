-- The two records of a name are put one after the other, and ended so.
use Rattle.std.proofs.Common.{ℕ, ◌<◌, ◌≤◌, ◌^◌, List, length}
use Rattle.std.specs.Prelude.{⊤}
use Rattle.pair_types.specs.declared.fault.PairFault.{PairFault}
use Rattle.pairs.specs.Versions.{Versions, HasLives, with_put, with_del}
use Rattle.pairs.specs.Told.{PairsTold, Goes, Moves, GivesUp, PutGivesUp}
use Rattle.fs_rules.specs.Limits.{longest_name}
use Rattle.fs_keys.specs.declared.key_parts.KeyParts.TheVariants.{Name, Cookie}
use Rattle.fs_keys.specs.declared.rows.NameRow.{NameRow}
use Rattle.fs_keys.specs.Keys.{key_of}
use Rattle.fs_shows.proofs.Apart.{short-name}
use Rattle.fs_shows.proofs.Rewriting.{keeps-put, keeps-del}
use Rattle.fs_shows.proofs.NameEdits.{name-first}
use Rattle.fs_shows.proofs.Doing.{does-move, does-then, put-up-behind, up-behind-del}
use Rattle.dir_ops.specs.Entries.{PutsName, PutsCookie, PutsEntry, cookie_row_of, without_entry}

module _ {S W : Type 0} (told : PairsTold S W) (old mid new : S) (id : ℕ) (name : List ℕ) where
  name-keeps : (value : List ℕ) → id < 2 ^ 64 → length name ≤ longest_name → (v : Versions) → HasLives v
      → HasLives (with_put (key_of (Name id name)) value v)
  name-keeps value fits short v lives = keeps-put (Name id name) value v (fits, short-name name short) (name-first id name) lives

  name-left : id < 2 ^ 64 → length name ≤ longest_name → (v : Versions) → HasLives v → HasLives
      (with_del (key_of (Name id name)) v)
  name-left fits short v lives = keeps-del (Name id name) v (fits, short-name name short) (name-first id name) lives

  pub puts-entry : (r : NameRow) → id < 2 ^ 64 → length name ≤ longest_name → Goes told mid new 1
      → PutsName told old mid id name r
      → PutsCookie told mid new id r.cookie (cookie_row_of name r) → PutsEntry told old new id name r
  puts-entry r fits short goes first second = record {
    by_name = first.value;
    by_cookie = second.value;
    says_name = first.says;
    says_cookie = second.says;
    fits = second.fits;
    moves = (does-then told old mid new 1 (with_put (key_of (Name id name)) first.value)
        (with_put (key_of (Cookie id r.cookie)) second.value)
        (λ v. ⊤) (λ v. ⊤) (name-keeps first.value fits short) goes (does-move told old mid _ first.moves)
        (does-move told mid new _ second.moves)).moves;
  }

  pub entry-up : (r : NameRow) → id < 2 ^ 64 → length name ≤ longest_name → (fault : PairFault) → Goes told old mid 1
      → Goes told mid new 1
      → PutsName told old mid id name r → PutGivesUp told mid new HasLives fault → PutGivesUp told old new HasLives fault
  entry-up r fits short fault before goes first up =
      put-up-behind told old mid new 1 1 (with_put (key_of (Name id name)) first.value) fault
      (name-keeps first.value fits short) before goes first.moves up

  pub ends-entry : (cookie : ℕ) → id < 2 ^ 64 → length name ≤ longest_name → Goes told mid new 0
      → Moves told old mid HasLives (with_del (key_of (Name id name))) → Moves told mid new HasLives
      (with_del (key_of (Cookie id cookie)))
      → Moves told old new HasLives (without_entry id name cookie)
  ends-entry cookie fits short goes first second =
      (does-then told old mid new 0 (with_del (key_of (Name id name))) (with_del (key_of (Cookie id cookie))) (λ v. ⊤) (λ v. ⊤)
      (name-left fits short) goes (does-move told old mid _ first) (does-move told mid new _ second)).moves

  pub ends-up : id < 2 ^ 64 → length name ≤ longest_name → (fault : PairFault) → Goes told old mid 0 → Goes told mid new 0
      → Moves told old mid HasLives (with_del (key_of (Name id name))) → GivesUp told mid new HasLives fault
      → GivesUp told old new HasLives fault
  ends-up fits short fault before goes first up =
      up-behind-del told old mid new 0 0 (with_del (key_of (Name id name))) fault (name-left fits short) before goes first up
