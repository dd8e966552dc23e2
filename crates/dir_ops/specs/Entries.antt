-- The two records of a name, as they are put and ended.
use Rattle.std.specs.Prelude.{ℕ, ◌≡◌, ◌<◌, ◌^◌, List, Some}
use Rattle.pairs.specs.Versions.{Versions, HasLives, with_put, with_del}
use Rattle.pairs.specs.Told.{PairsTold, Moves}
use Rattle.fs_keys.specs.declared.key_parts.KeyParts.TheVariants.{Name, Cookie}
use Rattle.fs_keys.specs.declared.rows.NameRow.{NameRow}
use Rattle.fs_keys.specs.declared.rows.CookieRow.{CookieRow}
use Rattle.fs_keys.specs.Keys.{key_of}
use Rattle.fs_keys.specs.Values.{name_in, cookie_in}

-- with values at the key of the name and at the key of its cookie
abbrev pub with_entry : ℕ → List ℕ → ℕ → List ℕ → List ℕ → Versions → Versions
with_entry directory name cookie by_name by_cookie v =
    with_put (key_of (Cookie directory cookie)) by_cookie (with_put (key_of (Name directory name)) by_name v)

-- with no value at either
abbrev pub without_entry : ℕ → List ℕ → ℕ → Versions → Versions
without_entry directory name cookie v = with_del (key_of (Cookie directory cookie)) (with_del (key_of (Name directory name)) v)

abbrev pub cookie_row_of : List ℕ → NameRow → CookieRow
cookie_row_of name row = record { fileid = row.fileid; name = name }

module _ {S W : Type 0} (told : PairsTold S W) (old new : S) (directory : ℕ) where
  -- a value that says this was put at the key of the name
  pub record PutsName (name : List ℕ) (row : NameRow) : Type 0 where
    pub value : List ℕ
    pub says : name_in value ≡ Some row
    pub moves : Moves told old new HasLives (with_put (key_of (Name directory name)) value)

  -- a value that says this was put at the key of the cookie
  pub record PutsCookie (cookie : ℕ) (row : CookieRow) : Type 0 where
    pub value : List ℕ
    pub says : cookie_in value ≡ Some row
    pub fits : cookie < 2 ^ 64
    pub moves : Moves told old new HasLives (with_put (key_of (Cookie directory cookie)) value)

  -- both records of a name were put
  pub record PutsEntry (name : List ℕ) (row : NameRow) : Type 0 where
    pub by_name : List ℕ
    pub by_cookie : List ℕ
    pub says_name : name_in by_name ≡ Some row
    pub says_cookie : cookie_in by_cookie ≡ Some (cookie_row_of name row)
    pub fits : row.cookie < 2 ^ 64
    pub moves : Moves told old new HasLives (with_entry directory name row.cookie by_name by_cookie)
