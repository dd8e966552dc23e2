-- SETATTR (RFC 1813, section 3.3.2).
use Rattle.std.specs.Prelude.{◌+◌, ◌==◌, ◌&&◌}
use Rattle.fs_rules.specs.Words.{ℕ, nat_le, nat_lt, Bool, not, List, Option, Ok, SetAttrArgs, SetAttr, Cred, Moment, NoSpc}
use Rattle.fs_rules.specs.Words.{NotSync, Live, SetAttrPlan}
use Rattle.fs_rules.specs.Shared.{apply_sattr, given, sattr_fault, Check, Row, ◌>>=◌, done, find_object, need_live, no_fault}
use Rattle.fs_rules.specs.Shared.{refuse_if, edit_node, set_attributes, set_size_if, most_numbers, Object, attributes, change}
use Rattle.fs_rules.specs.Shared.{fileid_at, Tree}

abbrev pub is_same : Moment → Moment → Bool
is_same a b = (a.seconds == b.seconds) && (a.nanos == b.nanos)

-- the size that is given is a cut of the file, and one too many
abbrev pub lacks_cuts : Option ℕ → Object → Bool
lacks_cuts size o = given size (λ size. nat_lt size o.size && nat_le most_numbers (o.inode.cuts + 1))

unfoldable pub set_attr_plan : Tree → Cred → SetAttrArgs (List ℕ) → Moment → Check SetAttrPlan
set_attr_plan t cred a now = do
  o ← find_object t a.object
  _ ← need_live o
  _ ← refuse_if (given a.guard (λ guard. not (is_same guard o.inode.ctime))) NotSync
  _ ← no_fault (sattr_fault cred (attributes t o) a.attributes)
  _ ← refuse_if (lacks_cuts a.attributes.size o) NoSpc
  Ok (record { fileid = fileid_at o.place; attributes = apply_sattr (attributes t o) a.attributes now })

unfoldable pub set_attr : Tree → Cred → SetAttrArgs (List ℕ) → Moment → Row
set_attr t cred a now =
    done (set_attr_plan t cred a now)
    (λ plan. edit_node plan.fileid (λ n. set_attributes plan.attributes (set_size_if a.attributes.size n)) t)
    (λ plan after. SetAttr (change t after (Live plan.fileid)))
