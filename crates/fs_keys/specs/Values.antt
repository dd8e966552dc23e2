-- The values of all records but inodes.
use Rattle.std.specs.Prelude.{ℕ, ◌≤◌, nat_le, if◌then◌else◌, List, ◌++◌, length, Option, Some, None, Result, Ok, Err}
use Rattle.xdr_grammar.specs.declared.fault.XdrFault.{XdrFault}
use Rattle.xdr_grammar.specs.Grammar.{Grammar, ◌at◌, ◌>>=◌, done}
use Rattle.xdr_grammar.specs.Items.{hyper, fixed}
use Rattle.xdr_grammar.specs.Whole.{whole}
use Rattle.nfs3_types.specs.Attributes.{time}
use Rattle.fs_rules.specs.declared.times.Times.{Times}
use Rattle.fs_rules.specs.Limits.{longest_name}
use Rattle.fs_keys.specs.declared.rows.First.{First}
use Rattle.fs_keys.specs.declared.rows.NameRow.{NameRow}
use Rattle.fs_keys.specs.declared.rows.CookieRow.{CookieRow}
use Rattle.fs_keys.specs.declared.rows.Extent.{Extent}

-- key 01
unfoldable pub first : Grammar First
first = do
  epoch ← hyper at (λ row. row.epoch)
  fsid ← hyper at (λ row. row.fsid)
  verifier ← fixed 8 at (λ row. row.verifier)
  done (record { epoch = epoch; fsid = fsid; verifier = verifier })

-- key 05
unfoldable pub name : Grammar NameRow
name = do
  cookie ← hyper at (λ row. row.cookie)
  fileid ← hyper at (λ row. row.fileid)
  done (record { cookie = cookie; fileid = fileid })

-- key 07
unfoldable pub extent : Grammar Extent
extent = do
  number ← hyper at (λ row. row.number)
  stamp ← hyper at (λ row. row.stamp)
  done (record { number = number; stamp = stamp })

-- key 09
unfoldable pub times : Grammar Times
times = do
  atime ← time at (λ row. row.atime)
  mtime ← time at (λ row. row.mtime)
  ctime ← time at (λ row. row.ctime)
  done (record { atime = atime; mtime = mtime; ctime = ctime })

-- ---- what the bytes of a value say

abbrev pub ok_of : {A : Type 0} → Result A XdrFault → Option A
ok_of (Ok a) = Some a
ok_of (Err fault) = None

-- a value says this, and has no byte more
abbrev pub said_by : {A : Type 0} → Grammar A → List ℕ → Option A
said_by g value = ok_of (whole g value)

abbrev pub first_in : List ℕ → Option First
first_in = said_by first

-- key 02: the number of the lane's next file
abbrev pub lane_in : List ℕ → Option ℕ
lane_in = said_by hyper

abbrev pub name_in : List ℕ → Option NameRow
name_in = said_by name

abbrev pub extent_in : List ℕ → Option Extent
extent_in = said_by extent

abbrev pub times_in : List ℕ → Option Times
times_in = said_by times

-- key 06: a number, and the name behind it
abbrev pub cookie_value : CookieRow → List ℕ
cookie_value row = hyper.spelling row.fileid ++ row.name

abbrev pub with_name : Result (ℕ × List ℕ) XdrFault → Option CookieRow
with_name (Ok (fileid, name)) = if nat_le (length name) longest_name then Some (record { fileid = fileid; name = name }) else None
with_name (Err fault) = None

abbrev pub cookie_in : List ℕ → Option CookieRow
cookie_in value = with_name (hyper.read value)
