-- The names of files that are named within others
use Rattle.std.specs.Prelude.{ℕ, ◌-◌, ◌==◌, ◌&&◌, ◌||◌, not, List, [], ◌∷◌, ◌++◌, length, take, slice_get, slice_index, Bool, false, codes, if◌then◌else◌}
use Rattle.std.specs.List.{fold, join_by, slice_split}
use Rattle.std.specs.Option.{option_map_or}
use Rattle.zone_proto.specs.Data.{same_octets}

-- ---- paths

-- the parts of a path, between its slashes
abbrev pub parts : List ℕ → List (List ℕ)
parts path = slice_split (λ b. b == 47) path

-- a path that begins with a slash isn't relative, and one that ends with a slash names a folder
abbrev pub begins_with_slash : List ℕ → Bool
begins_with_slash path = slice_index path 0 == 47

abbrev pub ends_with_slash : List ℕ → Bool
ends_with_slash path = slice_index path (length path - 1) == 47

-- all parts but the last
abbrev pub front : List (List ℕ) → List (List ℕ)
front path = take (length path - 1) path

-- ---- parts that name no folder of their own

-- a part that stands for the folder where it is
abbrev pub stays : List ℕ → Bool
stays part = length part == 0 || same_octets part (codes ".")

abbrev pub leaves : List ℕ → Bool
leaves part = same_octets part (codes "..")

-- the last part of a path has a name of its own
abbrev pub ends_with_own : List (List ℕ) → Bool
ends_with_own path = option_map_or (λ part. not (stays part || leaves part)) (slice_get path (length path - 1)) false

-- ---- the name of a file that another one names

-- a path with a part more: what stays where it is adds none, and `..` leaves the folder before it, where that has a name of its own
abbrev pub entered : List (List ℕ) → List ℕ → List (List ℕ)
entered path part =
    if stays part then path
    else (if leaves part && ends_with_own path then front path
    else path ++ part ∷ [])

-- where a name begins that stands in a file: at the root, which is an empty part, or in the folder of that file
abbrev pub begin : List ℕ → List ℕ → List (List ℕ)
begin file named = if begins_with_slash named then [] ∷ [] else front (parts file)

-- parts with slashes between them: the folder where the program runs, if there are none; the root, if only the empty one
abbrev pub joined : List (List ℕ) → List ℕ
joined path = join_by (λ part. part) (codes "/") path

abbrev pub path_of : List (List ℕ) → List ℕ
path_of path =
    if length path == 0 then codes "."
    else (if length (joined path) == 0 then codes "/"
    else joined path)

-- the name of a folder keeps its slash
abbrev pub as_folder : Bool → List ℕ → List ℕ
as_folder is_folder path = if is_folder && not (ends_with_slash path) then path ++ codes "/" else path

-- a file is known by its name, however it is written
unfoldable pub name_beside : List ℕ → List ℕ → List ℕ
name_beside file named = as_folder (ends_with_slash named) (path_of (fold entered (begin file named) (parts named)))
