-- What is answered to whoever asks how a service stands.
use Rattle.std.specs.Prelude.{ℕ, List, ◌++◌, codes, decimal, length}

-- a body of this type, behind which the connection is closed
abbrev pub page_text : List ℕ → List ℕ → List ℕ → List ℕ
page_text status type body =
    codes "HTTP/1.1 " ++ (status ++ (codes "\r\nConnection: close\r\nContent-Length: " ++ (decimal (length body) ++ (codes "\r\nContent-Type: " ++ (type ++ (codes "\r\n\r\n" ++ body))))))
