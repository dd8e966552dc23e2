-- Statuses (RFC 1813, section 2.6, nfsstat3), and their numbers.
use Rattle.std.specs.Prelude.{ℕ, List, [], ◌∷◌}
use Rattle.xdr_grammar.specs.Grammar.{Grammar}
use Rattle.xdr_grammar.specs.Enumerations.{enumeration}
use Rattle.nfs3_types.specs.declared.status.Status.{Status}
use Rattle.nfs3_types.specs.declared.status.Status.TheVariants.{Ok, Perm, NoEnt, Io, Nxio, Acces, Exist, Xdev, NoDev, NotDir}
use Rattle.nfs3_types.specs.declared.status.Status.TheVariants.{IsDir, Inval, FBig, NoSpc, Rofs, MLink, NameTooLong, NotEmpty}
use Rattle.nfs3_types.specs.declared.status.Status.TheVariants.{DQuot, Stale, Remote, BadHandle, NotSync, BadCookie, NotSupp}
use Rattle.nfs3_types.specs.declared.status.Status.TheVariants.{TooSmall, ServerFault, BadType, Jukebox}

abbrev pub status_number : Status → ℕ
status_number Ok = 0
status_number Perm = 1
status_number NoEnt = 2
status_number Io = 5
status_number Nxio = 6
status_number Acces = 13
status_number Exist = 17
status_number Xdev = 18
status_number NoDev = 19
status_number NotDir = 20
status_number IsDir = 21
status_number Inval = 22
status_number FBig = 27
status_number NoSpc = 28
status_number Rofs = 30
status_number MLink = 31
status_number NameTooLong = 63
status_number NotEmpty = 66
status_number DQuot = 69
status_number Stale = 70
status_number Remote = 71
status_number BadHandle = 10001
status_number NotSync = 10002
status_number BadCookie = 10003
status_number NotSupp = 10004
status_number TooSmall = 10005
status_number ServerFault = 10006
status_number BadType = 10007
status_number Jukebox = 10008

abbrev pub statuses : List Status
statuses = Ok ∷ Perm ∷ NoEnt ∷ Io ∷ Nxio ∷ Acces ∷ Exist ∷ Xdev ∷ NoDev ∷ NotDir ∷ IsDir ∷ Inval ∷ FBig ∷ NoSpc ∷ Rofs ∷ MLink
    ∷ NameTooLong ∷ NotEmpty ∷ DQuot ∷ Stale ∷ Remote ∷ BadHandle ∷ NotSync ∷ BadCookie ∷ NotSupp ∷ TooSmall ∷ ServerFault
    ∷ BadType ∷ Jukebox ∷ []

unfoldable pub status : Grammar Status
status = enumeration Ok status_number statuses
